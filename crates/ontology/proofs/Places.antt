-- Where reading stops, and what was read before. Assumes nothing.
--     run_sound      what is read to the end is a rest
--     Stops          where a reading stops, and that it stops there whatever follows
--     stopped_place  refusal 24 has its place
use Prim.Native.Nat.{ℕ, suc, ◌+◌, ◌<◌}
use native.Mathlib.Omega.{arith}
use mathlib.Core.Path.{◌≡◌, refl, sym, ◌∙◌, ap}
use mathlib.Core.Option.{Option, none, some}
use mathlib.Core.List.{List, [], ◌∷◌, ◌++◌, append_assoc}
use lib.ListN.{length, take, length-append}
use lib.Seq.{take-append_seam, take-append-add}
use Rattle.ontology.specs.Axiom.{Axiom}
use Rattle.ontology.specs.Text.{Token, axioms_tokens, Spaced, end, RunOf}
use Rattle.ontology.specs.Refused.{Begins, NoRunAt}
use Rattle.ontology.specs.Points.{Point, between, touching, word, fork, naming}
use Rattle.ontology.proofs.Reader.{State, Reading, step, ended, accepted, stopped, outcome_of, end_at, onward, run, start, read_axioms}
use Rattle.ontology.proofs.Tokens.{run_tokens, tokens_sound}
use Rattle.ontology.proofs.Complete.{axioms_accepted}
use Rattle.ontology.proofs.Sound.{Ahead, ahead_between, Rest, Valid, stepped, completed}

pub stopped_absurd : {X : Type 0} {p : ℕ} {all : List Axiom} → stopped p ≡ accepted all → X
stopped_absurd e = absurd cc

end_sound : (n : ℕ) (s : State) (p : Point) (all : List Axiom) → end_at n s p ≡ accepted all → Rest s p all []
unfolding run_tokens
end_sound n s between all e = go (ended s.done s.due) refl e
  where
    go : (o : Option (List Axiom)) → ended s.done s.due ≡ o → outcome_of n o ≡ accepted all → Rest s between all []
    go none q e = stopped_absurd e
    go (some found) q e = let h : found ≡ all = cc in record { tokens = []; runs = q ∙ ap some h; ahead = ahead_between end }
end_sound n s touching all e = stopped_absurd e
end_sound n s (word cs k) all e = stopped_absurd e
end_sound n s (fork cs f) all e = stopped_absurd e
end_sound n s (naming w) all e = stopped_absurd e

pub run_sound : (t : List ℕ) (n : ℕ) (r : Reading) (all : List Axiom) → Valid r.state r.point → run t n r ≡ accepted all → Rest r.state r.point all t
unfolding run
run_sound [] n r all v e = end_sound n r.state r.point all e
run_sound (b ∷ t) n r all v e = go (step r b) refl (run_sound t (suc n)) e
  where
    go : (o : Option Reading) → step r b ≡ o →
        ((r' : Reading) (all : List Axiom) → Valid r'.state r'.point → run t (suc n) r' ≡ accepted all → Rest r'.state r'.point all t) →
        onward n (run t (suc n)) o ≡ accepted all → Rest r.state r.point all (b ∷ t)
    go none q ih e = stopped_absurd e
    go (some r') q ih e = let k = stepped r.state r.point b r' v q in k.back all t (ih r' all k.valid e)

-- the rest of a start is a text of axioms
pub rest_reads : {all : List Axiom} {t : List ℕ} → Rest start.state between all t → RunOf t all
unfolding axioms_tokens
rest_reads {all} {t} x = record { spaced = go (tokens_sound x.tokens start.state all x.runs) x.ahead }
  where
    go : {ts : List Token} → axioms_tokens all ≡ ts → Ahead between ts t → Spaced (axioms_tokens all) t
    go e (ahead_between l) = rw e l

-- ---- where it stops

pub record Stops (r : Reading) (t : List ℕ) (n place : ℕ) : Type 0 where
  pub before : List ℕ
  pub after : List ℕ
  pub split : t ≡ before ++ after
  pub there : place ≡ n + length before
  pub last : Reading
  pub valid : Valid last.state last.point
  pub back : (all : List Axiom) (u : List ℕ) → Rest last.state last.point all u → Rest r.state r.point all (before ++ u)
  pub again : (b : ℕ) (l u : List ℕ) → after ≡ b ∷ l → run (before ++ (b ∷ u)) n r ≡ stopped place

nil_absurd : {X : Type 0} {b : ℕ} {l : List ℕ} → [] ≡ b ∷ l → X
nil_absurd e = absurd cc

end_stops : (n : ℕ) (s : State) (p : Point) (place : ℕ) → end_at n s p ≡ stopped place → place ≡ n
end_stops n s between place e = go (ended s.done s.due) e
  where
    go : (o : Option (List Axiom)) → outcome_of n o ≡ stopped place → place ≡ n
    go none e = cc
    go (some found) e = stopped_absurd (sym e)
end_stops n s touching place e = cc
end_stops n s (word cs k) place e = cc
end_stops n s (fork cs f) place e = cc
end_stops n s (naming w) place e = cc

pub run_stops : (t : List ℕ) (n : ℕ) (r : Reading) (place : ℕ) → Valid r.state r.point → run t n r ≡ stopped place → Stops r t n place
unfolding run
run_stops [] n r place v e = record {
  before = [];
  after = [];
  split = refl;
  there = omega (arith, end_stops n r.state r.point place e);
  last = r;
  valid = v;
  back = λ all u x. x;
  again = λ b l u h. nil_absurd h;
}
run_stops (b ∷ t) n r place v e = go (step r b) refl (run_stops t (suc n)) e
  where
    go : (o : Option Reading) → step r b ≡ o →
        ((r' : Reading) (place : ℕ) → Valid r'.state r'.point → run t (suc n) r' ≡ stopped place → Stops r' t (suc n) place) →
        onward n (run t (suc n)) o ≡ stopped place → Stops r (b ∷ t) n place
    go none q ih e =
        let h : place ≡ n = cc in
        record {
          before = [];
          after = b ∷ t;
          split = refl;
          there = omega arith;
          last = r;
          valid = v;
          back = λ all u x. x;
          again = λ c l u z. let c-is : c ≡ b = cc in rw (c-is, q) (ap stopped (sym h));
        }
    go (some r') q ih e =
        let k = stepped r.state r.point b r' v q in
        let i = ih r' place k.valid e in
        record {
          before = b ∷ i.before;
          after = i.after;
          split = ap (b ∷◌) i.split;
          there = omega (arith, i.there);
          last = i.last;
          valid = i.valid;
          back = λ all u x. k.back all (i.before ++ u) (i.back all u x);
          again = λ c l u z. rw q (i.again c l u z);
        }

pub stopped_place : (input : List ℕ) (p : ℕ) → read_axioms input ≡ stopped p → NoRunAt input p
stopped_place input p e =
    let i = run_stops input 0 start p tt e in
    let c = completed i.last.state i.last.point i.valid in
    let l : length input ≡ length i.before + length i.after = ap length i.split ∙ length-append i.before i.after in
    let at : p ≡ length i.before = i.there ∙ omega arith in
    let to : take p input ≡ i.before = ap (λ n. take n input) at ∙ ap (take (length i.before)) i.split ∙ take-append_seam i.before i.after in
    record {
      inside = omega arith;
      before = record { axioms = c.all; rest = c.rest; reads = rw to (rest_reads (i.back c.all c.rest c.goes)) };
      byte = λ less b. more i at b i.after refl (omega arith);
      cut = λ h axioms a. stopped_absurd (sym e ∙ axioms_accepted a);
    }
  where
    more : (i : Stops start input 0 p) → p ≡ length i.before → Begins (take (p + 1) input) → (l : List ℕ) → i.after ≡ l → 0 < length l → ⊥
    more i at b [] q h = omega arith
    more i at b (c ∷ l) q h =
        let to : take (p + 1) input ≡ i.before ++ (c ∷ []) = rw (at, i.split, take-append-add i.before i.after 1, q) in
        let reads : read_axioms (i.before ++ (c ∷ b.rest)) ≡ accepted b.axioms =
        ap read_axioms (sym (append_assoc i.before (c ∷ []) b.rest) ∙ ap (◌++ b.rest) (sym to)) ∙ axioms_accepted b.reads in
        stopped_absurd (sym (i.again c l b.rest q) ∙ reads)
