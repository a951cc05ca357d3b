-- A text falls into sheets in one way: they are the text again, and what is the text again and falls so is these sheets.
-- Assumes nothing.
use Prim.Native.Nat.{ℕ}
use mathlib.Core.Path.{◌≡◌, refl, sym, ◌∙◌, ap}
use mathlib.Core.Bool.{true, false}
use mathlib.Core.List.Memᴰ
use mathlib.Core.List.{List, [], ◌∷◌, ◌++◌, append-nil}
use lib.ListN.{drop}
use lib.Dec.{eqb}
use borrow.Author.Tests.{ne_eqb, eqb-true, eqb-false}
use Rattle.semantics.specs.Source.{line_feed}
use Rattle.semantics.proofs.Tests.{cases}
use Rattle.sheets.specs.Sheets.{Sheet, sheet_at, with_byte, sheets_of}
use Rattle.sheets.specs.Whole.{joined, NoFeed, Whole, none, unended, ended}

-- a byte before the first of the sheets
abbrev before : ℕ → List Sheet → List Sheet
before b sheets = with_byte b (sheet_at sheets 0) ∷ drop 1 sheets

joined_before : (b : ℕ) (sheets : List Sheet) → joined (before b sheets) ≡ b ∷ joined sheets
unfolding joined
joined_before b [] = refl
joined_before b (s ∷ sheets) = refl

pub sheets_joined : (text : List ℕ) → joined (sheets_of text) ≡ text
unfolding joined sheets_of
sheets_joined [] = refl
sheets_joined (b ∷ bs) =
    let rest = sheets_joined bs in
    cases (eqb b line_feed)
    (λ e. rw e (ap (λ l. line_feed ∷ l) rest ∙ ap (λ n. n ∷ bs) (sym (eqb-true b line_feed e))))
    (λ e. rw e (joined_before b (sheets_of bs) ∙ ap (λ l. b ∷ l) rest))

feedless : {b : ℕ} {bytes : List ℕ} → eqb b line_feed ≡ false → NoFeed bytes → NoFeed (b ∷ bytes)
feedless {b} f n c (Memᴰ.head e) g = eqb-false b line_feed f (sym e ∙ g)
feedless f n c (Memᴰ.tail m) g = n c m g

none_feedless : NoFeed []
none_feedless b m e = Memᴰ.not-nil m

whole_before : {b : ℕ} {sheets : List Sheet} → eqb b line_feed ≡ false → Whole sheets → Whole (before b sheets)
whole_before f none = unended (feedless f none_feedless)
whole_before f (unended n) = unended (feedless f n)
whole_before f (ended n w) = ended (feedless f n) w

pub sheets_whole : (text : List ℕ) → Whole (sheets_of text)
unfolding sheets_of
sheets_whole [] = none
sheets_whole (b ∷ bs) =
    let rest = sheets_whole bs in
    cases (eqb b line_feed) (λ e. rw e (ended none_feedless rest)) (λ e. rw e (whole_before e rest))

-- ---- and in no other

-- the sheets of a text that begins with these bytes and goes on
sheets_bytes : (bytes rest : List ℕ) → NoFeed bytes → (s : Sheet) (sheets : List Sheet) → sheets_of rest ≡ s ∷ sheets →
    sheets_of (bytes ++ rest) ≡ record { bytes = bytes ++ s.bytes; ended = s.ended } ∷ sheets
unfolding sheets_of
sheets_bytes [] rest n s sheets e = e
sheets_bytes (b ∷ bytes) rest n s sheets e =
    let f = ne_eqb b line_feed (n b (Memᴰ.head refl)) in
    let r = sheets_bytes bytes rest (λ c m. n c (Memᴰ.tail m)) s sheets e in
    rw (f, r) refl

sheets_unended : (b : ℕ) (bytes : List ℕ) → NoFeed (b ∷ bytes) → sheets_of (b ∷ bytes) ≡ record { bytes = b ∷ bytes; ended = false } ∷ []
unfolding sheets_of
sheets_unended b [] n = rw (ne_eqb b line_feed (n b (Memᴰ.head refl))) refl
sheets_unended b (c ∷ bytes) n =
    let f = ne_eqb b line_feed (n b (Memᴰ.head refl)) in
    let r = sheets_unended c bytes (λ d m. n d (Memᴰ.tail m)) in
    rw (f, r) refl

whole_sheets : {sheets : List Sheet} → Whole sheets → sheets_of (joined sheets) ≡ sheets
unfolding joined sheets_of
whole_sheets none = refl
whole_sheets (unended {b} {bytes} n) = ap sheets_of (append-nil (b ∷ bytes)) ∙ sheets_unended b bytes n
whole_sheets (ended {bytes} {sheets} n w) =
    let none : Sheet = record { bytes = []; ended = true } in
    sheets_bytes bytes (line_feed ∷ joined sheets) n none sheets (ap (λ ss. none ∷ ss) (whole_sheets w)) ∙ ap (λ l. record { bytes = l; ended = true } ∷ sheets) (append-nil bytes)

pub sheets_unique : {text : List ℕ} {sheets : List Sheet} → Whole sheets → joined sheets ≡ text → sheets ≡ sheets_of text
sheets_unique w e = sym (whole_sheets w) ∙ ap sheets_of e
