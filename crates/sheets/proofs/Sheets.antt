-- The sheets of a text, from its front: how many there are, when the first can be marked, and the text behind it.
--     Counting                         the sheets before a byte are counted: more behind a byte, and all at the end
--     opens_decides                    a text that begins with a filled sheet
--     Walk, walk_none, walk_more       the text from sheet i on: before the first, and behind a filled one
--     Passing                          the sheets before one are filled: none at first, one more, a wrong one
-- Assumes nothing.
use Prim.Native.Nat.{ℕ, zero, suc, ◌+◌, ◌-◌, ◌<◌, ◌≤◌}
use native.Mathlib.Omega.{arith}
use native.Mathlib.Decide.{dec_lt}
use native.Mathlib.Numerals.{add-one}
use mathlib.Core.Path.{◌≡◌, refl, sym, ◌∙◌, ap, subst}
use mathlib.Core.Bool.{Bool, true, false, not, ◌&&◌, cond, true≢false}
use mathlib.Core.List.{List, [], ◌∷◌}
use mathlib.Core.Logic.{◌↔◌}
use lib.ListN.{length, get_or, take, drop, length-drop, drop_of_length-le}
use lib.Seq.{drop-cons, drop-drop, get_or-drop}
use lib.Dec.{eqb}
use borrow.Author.Tests.{eqb-true, ne_eqb}
use Rattle.std.specs.List.{list_all}
use Rattle.semantics.specs.Source.{line_feed}
use Rattle.semantics.proofs.Tests.{cases, either, both}
use Rattle.sheets.specs.Sheets.{Sheet, no_sheet, sheet_at, with_byte, sheets_of, answer_byte, Filled}
use Rattle.sheets.specs.Steps.{is_answer, opens_filled, LowestWrong}

-- ---- how many

count_byte : (b : ℕ) (bs : List ℕ) → length (sheets_of (b ∷ bs)) ≡ 1 + (length (sheets_of bs) - cond (eqb b line_feed) 0 1)
unfolding sheets_of
count_byte b bs =
    cases (eqb b line_feed) (λ e. rw e (omega arith)) (λ e. rw e (omega (arith, length-drop 1 (sheets_of bs))))

-- The sheets that begin before byte i are counted; where one of them goes on there, it is `inside`.
pub record Counting (text : List ℕ) (i count : ℕ) (inside : Bool) : Type 0 where
  pub within : i ≤ length text
  pub few : count ≤ i
  pub all : count + (length (sheets_of (drop i text)) - cond inside 1 0) ≡ length (sheets_of text)

pub counting_more : {text : List ℕ} {i count : ℕ} {inside : Bool} (next : ℕ) → Counting text i count inside → i < length text → next + cond inside 1 0 ≡ count + 1 →
    Counting text (i + 1) next (not (eqb (get_or text i 0) line_feed))
counting_more {text} {i} {count} {inside} next c lt n =
    let b = get_or text i 0 in
    let e = ap (λ l. length (sheets_of l)) (drop-cons text i 0 lt) ∙ count_byte b (drop (suc i) text) in
    let one : cond inside 1 0 ≤ 1 = cases inside (λ t. rw t (omega arith)) (λ f. rw f (omega arith)) in
    record {
      within = omega arith;
      few = cases inside (λ t. omega (arith, c.few, rw t at n)) (λ f. omega (arith, c.few, rw f at n));
      all = rw add-one (cases (eqb b line_feed) (λ t. rw t (omega (arith, n, rw t at e, c.all))) (λ f. rw f (omega (arith, n, rw f at e, c.all))));
    }

pub counting_all : {text : List ℕ} {i count : ℕ} {inside : Bool} → Counting text i count inside → length text ≤ i → count ≡ length (sheets_of text)
unfolding sheets_of
counting_all {text} c le = let e = ap (λ l. length (sheets_of l)) (drop_of_length-le text le) in omega (arith, e, c.all)

-- ---- a filled sheet

-- what a reply is written as is an answer
says_answer : {b : ℕ} (reply : Bool) → b ≡ answer_byte reply → is_answer b ≡ true
says_answer true e = rw e refl
says_answer false e = rw e refl

filled_more : {q b : ℕ} {s : Sheet} → is_answer b ≡ true → Filled q s → Filled (suc q) (with_byte b s)
filled_more {q} {b} {s} a f = record { is_ended = f.is_ended; one_each = ap suc f.one_each; says = go }
  where
    go : (i : ℕ) → i < suc q → (reply : Bool) × (get_or (b ∷ s.bytes) i 0 ≡ answer_byte reply)
    go zero lt = either (eqb b (answer_byte true)) (eqb b (answer_byte false)) a (λ e. (true, eqb-true _ _ e)) (λ e. (false, eqb-true _ _ e))
    go (suc i) lt = f.says i (omega arith)

filled_less : {q b : ℕ} {s : Sheet} → Filled (suc q) (with_byte b s) → (is_answer b ≡ true) × Filled q s
filled_less f =
    let (reply, e) = f.says 0 (omega arith) in
    (says_answer reply e, record { is_ended = f.is_ended; one_each = omega (arith, f.one_each); says = λ i lt. f.says (suc i) (omega arith) })

-- the first sheet of a text whose first byte is no line feed
first_byte : (b : ℕ) (bs : List ℕ) → eqb b line_feed ≡ false → sheet_at (sheets_of (b ∷ bs)) 0 ≡ with_byte b (sheet_at (sheets_of bs) 0)
unfolding sheets_of
first_byte b bs e = rw e refl

rest_byte : (b : ℕ) (bs : List ℕ) → eqb b line_feed ≡ false → drop 1 (sheets_of (b ∷ bs)) ≡ drop 1 (sheets_of bs)
unfolding sheets_of
rest_byte b bs e = rw e refl

-- a line feed ends a sheet without a byte
first_feed : (b : ℕ) (bs : List ℕ) → eqb b line_feed ≡ true → sheets_of (b ∷ bs) ≡ record { bytes = []; ended = true } ∷ sheets_of bs
unfolding sheets_of
first_feed b bs e = rw e refl

-- where there is no sheet, there is no filled one
none_filled : {q : ℕ} → Filled q (sheet_at (sheets_of []) 0) → ⊥
unfolding sheets_of
none_filled f = true≢false (sym f.is_ended)

-- an answer is no line feed
answer_no_feed : (b : ℕ) → is_answer b ≡ true → eqb b line_feed ≡ false
answer_no_feed b h =
    either (eqb b (answer_byte true)) (eqb b (answer_byte false)) h
    (λ e. ne_eqb b line_feed (λ f. omega (arith, eqb-true b (answer_byte true) e)))
    (λ e. ne_eqb b line_feed (λ f. omega (arith, eqb-true b (answer_byte false) e)))

-- ---- the first sheet

opens_filled_lem : (q : ℕ) (t : List ℕ) → opens_filled q t ≡ true → Filled q (sheet_at (sheets_of t) 0)
unfolding opens_filled
opens_filled_lem q [] h = absurd (true≢false (sym h))
opens_filled_lem zero (b ∷ bs) h = rw (first_feed b bs h) record { is_ended = refl; one_each = refl; says = λ i lt. absurd (omega arith) }
opens_filled_lem (suc q) (b ∷ bs) h =
    let (a, rest) = both (is_answer b) (opens_filled q bs) h in
    rw (first_byte b bs (answer_no_feed b a)) (filled_more a (opens_filled_lem q bs rest))

filled_opens : (q : ℕ) (t : List ℕ) → Filled q (sheet_at (sheets_of t) 0) → opens_filled q t ≡ true
unfolding opens_filled
filled_opens q [] f = absurd (none_filled f)
filled_opens zero (b ∷ bs) f = cases (eqb b line_feed) (λ e. e) (λ e. absurd (omega (arith, (rw (first_byte b bs e) at f).one_each)))
filled_opens (suc q) (b ∷ bs) f = cases (eqb b line_feed)
    (λ e. absurd (omega (arith, (rw (first_feed b bs e) at f).one_each)))
    (λ e. let (a, rest) = filled_less (rw (first_byte b bs e) at f) in rw (a, filled_opens q bs rest) refl)

pub opens_decides : (q : ℕ) (t : List ℕ) → (opens_filled q t ≡ true) ↔ Filled q (sheet_at (sheets_of t) 0)
opens_decides q t = (opens_filled_lem q t, filled_opens q t)

-- a text with no byte behind the questions' does not begin with a filled sheet
pub opens_short : (q : ℕ) (t : List ℕ) → length t ≤ q → opens_filled q t ≡ false
unfolding opens_filled
opens_short q [] le = refl
opens_short zero (b ∷ bs) le = absurd (omega arith)
opens_short (suc q) (b ∷ bs) le = rw (opens_short q bs (omega arith)) (false_right (is_answer b))
  where
    false_right : (a : Bool) → (a && false) ≡ false
    false_right true = refl
    false_right false = refl

-- Another one does where those of the questions are answers, and a line feed stands behind them.
pub opens_long : (q : ℕ) (t : List ℕ) → q < length t → opens_filled q t ≡ (list_all is_answer (take q t) && eqb (get_or t q 0) line_feed)
unfolding opens_filled
opens_long q [] lt = absurd (omega arith)
opens_long zero (b ∷ bs) lt = refl
opens_long (suc q) (b ∷ bs) lt = cases (is_answer b) (λ t. rw t (opens_long q bs (omega arith))) (λ f. rw f refl)

-- ---- behind it

-- A filled sheet has as many bytes as there are questions, and the other sheets are those of the text behind its line feed.
record Behind (q : ℕ) (t : List ℕ) : Type 0 where
  inside : q < length t
  own : take q t ≡ (sheet_at (sheets_of t) 0).bytes
  rest : sheets_of (drop (q + 1) t) ≡ drop 1 (sheets_of t)

behind_filled : (q : ℕ) (t : List ℕ) → Filled q (sheet_at (sheets_of t) 0) → Behind q t
behind_filled q [] f = absurd (none_filled f)
behind_filled zero (b ∷ bs) f = cases (eqb b line_feed)
    (λ e. let s = first_feed b bs e in record { inside = omega arith; own = ap (λ ss. (sheet_at ss 0).bytes) (sym s); rest = ap (drop 1) (sym s) })
    (λ e. absurd (omega (arith, (rw (first_byte b bs e) at f).one_each)))
behind_filled (suc q) (b ∷ bs) f = cases (eqb b line_feed)
    (λ e. absurd (omega (arith, (rw (first_feed b bs e) at f).one_each)))
    (λ e.
    let next : suc q + 1 ≡ suc (q + 1) = omega arith in
    let r = behind_filled q bs (filled_less (rw (first_byte b bs e) at f)).1 in
    record {
      inside = omega (arith, r.inside);
      own = ap (λ l. b ∷ l) r.own ∙ ap (λ s. s.bytes) (sym (first_byte b bs e));
      rest = ap (λ n. sheets_of (drop n (b ∷ bs))) next ∙ r.rest ∙ sym (rest_byte b bs e);
    })

-- ---- from sheet to sheet

-- The rest of a text is that of the sheets from i on.
pub record Walk (text : List ℕ) (i : ℕ) (rest : List ℕ) : Type 0 where
  pub inside : length rest ≤ length text
  pub is : sheets_of rest ≡ drop i (sheets_of text)

pub walk_none : (text : List ℕ) → Walk text 0 text
walk_none text = record { inside = omega arith; is = refl }

-- sheet i is the first of the rest
walk_first : {text : List ℕ} {i : ℕ} {rest : List ℕ} → Walk text i rest → sheet_at (sheets_of rest) 0 ≡ sheet_at (sheets_of text) i
walk_first {text} {i} w =
    let e : i + 0 ≡ i = omega arith in
    ap (λ ss. sheet_at ss 0) w.is ∙ get_or-drop i (sheets_of text) 0 no_sheet ∙ ap (sheet_at (sheets_of text)) e

-- What a filled sheet i of the text is: its bytes stand there, and the sheets from the next on behind them.
pub record Step (q : ℕ) (text : List ℕ) (i : ℕ) (rest : List ℕ) : Type 0 where
  pub inside : q + 1 ≤ length rest
  pub own : take q rest ≡ (sheet_at (sheets_of text) i).bytes
  pub next : Walk text (i + 1) (drop (q + 1) rest)

pub walk_more : {q : ℕ} {text : List ℕ} {i : ℕ} {rest : List ℕ} → Walk text i rest → Filled q (sheet_at (sheets_of text) i) → Step q text i rest
walk_more {q} {text} {i} {rest} w f =
    let e = walk_first w in
    let r = behind_filled q rest (subst (Filled q) (sym e) f) in
    record {
      inside = omega (arith, r.inside);
      own = r.own ∙ ap (λ s. s.bytes) e;
      next = record { inside = omega (arith, w.inside, length-drop (q + 1) rest); is = r.rest ∙ ap (drop 1) w.is ∙ drop-drop 1 i (sheets_of text) };
    }

-- ---- the lowest that is not filled

-- The sheets before i are filled, and the rest of the text is that of the others.
pub record Passing (q : ℕ) (text : List ℕ) (i : ℕ) (rest : List ℕ) : Type 0 where
  pub walk : Walk text i rest
  pub before : (j : ℕ) → j < i → Filled q (sheet_at (sheets_of text) j)

pub passing_none : (q : ℕ) (text : List ℕ) → Passing q text 0 text
passing_none q text = record { walk = walk_none text; before = λ j lt. absurd (omega arith) }

module _ {q : ℕ} {text : List ℕ} {i : ℕ} {rest : List ℕ} {b : Bool} (p : Passing q text i rest) (e : b ≡ opens_filled q rest) where
  -- what is told of the rest is told of sheet i
  told : (b ≡ true) ↔ Filled q (sheet_at (sheets_of text) i)
  told =
      let (to, from) = opens_decides q rest in
      ((λ t. subst (Filled q) (walk_first p.walk) (to (sym e ∙ t))), λ h. e ∙ from (subst (Filled q) (sym (walk_first p.walk)) h))

  pub passing_step : b ≡ true → Step q text i rest
  passing_step t = walk_more p.walk (told.0 t)

  pub passing_more : b ≡ true → Passing q text (i + 1) (drop (q + 1) rest)
  passing_more t = record {
    walk = (passing_step t).next;
    before = λ j le. elim (dec_lt j i) [
      | yes h ↦ p.before j h
      | no h ↦ let same : i ≡ j = omega arith in subst (λ k. Filled q (sheet_at (sheets_of text) k)) same (told.0 t)
    ];
  }

  pub passing_wrong : b ≡ false → i < length (sheets_of text) → LowestWrong q (sheets_of text) i
  passing_wrong f lt = record { inside = lt; before = p.before; wrong = λ h. true≢false (sym (told.1 h) ∙ f) }
