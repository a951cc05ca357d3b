-- Lines and their images have the same rational closure, where what the images say of their models is what the lines say.
-- Assumes nothing.
use Prim.Native.Nat.{ℕ, suc, ◌<◌}
use native.Mathlib.Omega.{arith}
use mathlib.Core.Path.{◌≡◌, refl, sym, ◌∙◌, ap, subst}
use mathlib.Core.Bool.{Bool, true, false}
use mathlib.Core.Option.{Option, none, some}
use mathlib.Core.List.{List, [], ◌∷◌, ◌++◌, Memᴰ, append-nil, append_cancel_right}
use mathlib.Core.Logic.{◌↔◌}
use lib.ListN.{length, take, drop, replicate}
use lib.Seq.{take-append_seam, drop-append_seam}
use Rattle.semantics.specs.Concept.{Concept, bottom, Inclusion, Within, Exceptional}
use Rattle.semantics.specs.Closure.{Filtered, Pass, repeats, falls, Passes, last, again, emptied, RankIs, DefeasiblyAt, level, Replies}
use Rattle.semantics.specs.Closure.{Line, Kind, line, strict, strict_of, defeasible_of, is_defeasible, keep_if, inclusions_of}
use Rattle.semantics.specs.Closure.{Result, of_strict, of_defeasible, of_query, of_strict_query, Results, done, more, RationalClosure}
use Rattle.semantics.proofs.Consequence.{exceptional_within}
use Rattle.semantics.proofs.Stuck.{rest_iff}
use Rattle.semantics.proofs.Lines.{inclusions_append}
use Rattle.semantics.proofs.Like.{Pointwise, nil, cons, pointwise_length, pointwise_at, Alike, alike_pointwise}
use Rattle.semantics.proofs.Like.{alike_nil, alike_empty, alike_some, alike_map, filtered_alike, filtered_alike_whole, filtered_alike_shorter}

-- ---- corresponding inclusions, strict sets and lines, over a correspondence Rel of concepts

module _ {A R A' R' : Type 0} (Rel : Concept A R → Concept A' R' → Type 0) where
  pub record InclusionR (ρ : Inclusion A R) (ρ' : Inclusion A' R') : Type 0 where
    pub lefts : Rel ρ.left ρ'.left
    pub rights : Rel ρ.right ρ'.right

  -- strict sets that grew alike from S₀ and S₀'
  pub data Grown (S₀ : List (Inclusion A R)) (S₀' : List (Inclusion A' R')) : List (Inclusion A R) → List (Inclusion A' R') → Type 0 where
    start : Grown S₀ S₀' S₀ S₀'
    add : {T X : List (Inclusion A R)} {T' X' : List (Inclusion A' R')} →
        Grown S₀ S₀' T T' → Alike InclusionR X X' → Grown S₀ S₀' (T ++ X) (T' ++ X')

  pub data LineR : Line A R → Line A' R' → Type 0 where
    kind_kept : {k : Kind} {C D : Concept A R} {C' D' : Concept A' R'} → Rel C C' → Rel D D' → LineR (line k C D) (line k C' D')

  -- what transport asks
  pub record Same (S₀ : List (Inclusion A R)) (S₀' : List (Inclusion A' R')) : Type 0 where
    pub bottoms : Rel bottom bottom
    pub within : {T E : List (Inclusion A R)} {T' E' : List (Inclusion A' R')} {C D : Concept A R} {C' D' : Concept A' R'} →
        Grown S₀ S₀' T T' → Alike InclusionR E E' → Rel C C' → Rel D D' → (Within T E C D ↔ Within T' E' C' D')

-- ---- passes, ranks and replies

replies_iff : {P P' : Type 0} → P ↔ P' → (b : Bool) → Replies b P → Replies b P'
replies_iff e true h = e.0 h
replies_iff e false n = λ h. n (e.1 h)

not_iff : {P P' : Type 0} → P ↔ P' → ((P → ⊥) ↔ (P' → ⊥))
not_iff e = (λ n h. n (e.1 h), λ n h. n (e.0 h))

-- `again`, for a stuck set that is not empty
one_more : {A R : Type 0} {T D D' T* : List (Inclusion A R)} {sets sets* : List (List (Inclusion A R))} {n : ℕ} (stuck : List (Inclusion A R)) → 0 < length stuck →
    Pass T D sets stuck → Filtered (λ (σ : Inclusion A R). Memᴰ σ stuck → ⊥) D D' → Passes (T ++ emptied stuck) D' n T* sets* → Passes T D (suc n) T* sets*
one_more [] lt p k r = absurd (omega arith)
one_more (ρ ∷ stuck) lt p k r = again p k r

module _ {A R A' R' : Type 0} {Rel : Concept A R → Concept A' R' → Type 0} {S₀ : List (Inclusion A R)} {S₀' : List (Inclusion A' R')} (same : Same Rel S₀ S₀') where
  pub exceptional : {T E : List (Inclusion A R)} {T' E' : List (Inclusion A' R')} → Grown Rel S₀ S₀' T T' → Alike (InclusionR Rel) E E' →
      (C : Concept A R) (C' : Concept A' R') → Rel C C' → (Exceptional T E C ↔ Exceptional T' E' C')
  exceptional {T} {E} {T'} {E'} g e C C' r =
      let w = same.within g e r same.bottoms in
      let x = exceptional_within T E C in
      let x' = exceptional_within T' E' C' in
      (λ h. x'.1 (w.0 (x.0 h)), λ h. x.1 (w.1 (x'.0 h)))

  -- corresponding inclusions go on to the next set alike
  next_there : {T E : List (Inclusion A R)} {T' E' : List (Inclusion A' R')} → Grown Rel S₀ S₀' T T' → Alike (InclusionR Rel) E E' →
      (ρ : Inclusion A R) (ρ' : Inclusion A' R') → InclusionR Rel ρ ρ' → (Exceptional T E ρ.left ↔ Exceptional T' E' ρ'.left)
  next_there g e ρ ρ' w = exceptional g e ρ.left ρ'.left w.lefts

  pub pass_there : {T E stuck : List (Inclusion A R)} {sets : List (List (Inclusion A R))} {T' E' : List (Inclusion A' R')} →
      Grown Rel S₀ S₀' T T' → Alike (InclusionR Rel) E E' → Pass T E sets stuck →
      (sets' : List (List (Inclusion A' R'))) × (stuck' : List (Inclusion A' R')) × Pass T' E' sets' stuck' × Pointwise (Alike (InclusionR Rel)) sets sets' × Alike (InclusionR Rel) stuck stuck'
  pass_there {T'} {E'} g e (repeats n) =
      ([], E', repeats (filtered_alike_whole (next_there g e) e n), nil, e)
  pass_there {E'} g e (falls n lt p) =
      let r = filtered_alike (next_there g e) e n in
      let q = pass_there g r.2 p in
      (E' ∷ q.0, q.1, falls r.1 (filtered_alike_shorter (next_there g e) e n lt r.1) q.2, cons e q.3, q.4)

  pub passes_there : {T D T* : List (Inclusion A R)} {sets : List (List (Inclusion A R))} {n : ℕ} {T' D' : List (Inclusion A' R')} →
      Grown Rel S₀ S₀' T T' → Alike (InclusionR Rel) D D' → Passes T D n T* sets →
      (T*' : List (Inclusion A' R')) × (sets' : List (List (Inclusion A' R'))) × Passes T' D' n T*' sets' × Grown Rel S₀ S₀' T* T*' × Pointwise (Alike (InclusionR Rel)) sets sets'
  passes_there {T'} {D'} g d (last p) =
      let q = pass_there g d p in
      (T', q.0, last (subst (λ s. Pass T' D' q.0 s) (alike_empty q.1 q.4) q.2), g, q.3)
  passes_there {T'} {D'} g d (again {T} {stuck} {ρ} p k r) =
      let q = pass_there g d p in
      let k' = filtered_alike (λ σ σ' w. not_iff (next_there g q.4 σ σ' w)) d ((rest_iff p).0 k) in
      let grown = add g (alike_map _ _ (λ σ σ' w. record { lefts = w.lefts; rights = same.bottoms }) q.4) in
      let r' = passes_there grown k'.2 r in
      (r'.0, r'.1, one_more {T* = r'.0} {sets* = r'.1} q.1 (alike_some q.4) q.2 ((rest_iff q.2).1 k'.1) r'.2, r'.3, r'.4)

  module _ {T : List (Inclusion A R)} {sets : List (List (Inclusion A R))} {T' : List (Inclusion A' R')} {sets' : List (List (Inclusion A' R'))}
      (g : Grown Rel S₀ S₀' T T') (w : Pointwise (Alike (InclusionR Rel)) sets sets') where
    pub level_there : (i : ℕ) → Alike (InclusionR Rel) (level sets i) (level sets' i)
    level_there = pointwise_at w alike_nil

    pub rank_there : {C : Concept A R} {C' : Concept A' R'} → Rel C C' → (k : Option ℕ) → RankIs T sets C k → RankIs T' sets' C' k
    rank_there {C} {C'} r none h = λ j le. (exceptional g (level_there j) C C' r).0 (h j (omega (arith, pointwise_length w)))
    rank_there {C} {C'} r (some i) h = (
      omega (arith, pointwise_length w, h.0),
      λ x. h.1 ((exceptional g (level_there i) C C' r).1 x),
      λ j lt. (exceptional g (level_there j) C C' r).0 (h.2 j lt),
    )

    pub defeasibly_there : {C D : Concept A R} {C' D' : Concept A' R'} → Rel C C' → Rel D D' → (k : Option ℕ) → (DefeasiblyAt T sets k C D ↔ DefeasiblyAt T' sets' k C' D')
    defeasibly_there r s none = (λ u. u, λ u. u)
    defeasibly_there r s (some i) = same.within g (level_there i) r s

    pub result_there : {l : Line A R} {l' : Line A' R'} {r : ℕ} → LineR Rel l l' → Result S₀ T sets l r → Result S₀' T' sets' l' r
    result_there (kind_kept c d) of_strict = of_strict
    result_there (kind_kept c d) (of_defeasible k h) = of_defeasible k (rank_there c k h)
    result_there (kind_kept c d) (of_query k b h s) = of_query k b (rank_there c k h) (replies_iff (defeasibly_there c d k) b s)
    result_there (kind_kept c d) (of_strict_query b s) = of_strict_query b (replies_iff (same.within start alike_nil c d) b s)

    pub results_there : {ls : List (Line A R)} {ls' : List (Line A' R')} {rs : List ℕ} →
        Pointwise (LineR Rel) ls ls' → Results S₀ T sets ls rs → Results S₀' T' sets' ls' rs
    results_there nil done = done
    results_there (cons l ls) (more r rs) = more (result_there l r) (results_there ls rs)

-- ---- both ways

pub inclusion_flip : {A R A' R' : Type 0} {Rel : Concept A R → Concept A' R' → Type 0} {X : List (Inclusion A R)} {X' : List (Inclusion A' R')} →
    Alike (InclusionR Rel) X X' → Alike (InclusionR (λ C' C. Rel C C')) X' X
inclusion_flip w = record {
  there = λ ρ m. let t = w.back ρ m in (t.0, t.1, record { lefts = t.2.lefts; rights = t.2.rights });
  back = λ ρ m. let t = w.there ρ m in (t.0, t.1, record { lefts = t.2.lefts; rights = t.2.rights });
}

module _ {A R A' R' : Type 0} {Rel : Concept A R → Concept A' R' → Type 0} where
  pub lines_flip : {l : List (Line A R)} {l' : List (Line A' R')} → Pointwise (LineR Rel) l l' → Pointwise (LineR (λ C' C. Rel C C')) l' l
  lines_flip nil = nil
  lines_flip (cons (kind_kept c d) ls) = cons (kind_kept c d) (lines_flip ls)

  pub grown_flip : {S₀ : List (Inclusion A R)} {S₀' : List (Inclusion A' R')} {T : List (Inclusion A R)} {T' : List (Inclusion A' R')} → Grown (λ C' C. Rel C C') S₀' S₀ T' T → Grown Rel S₀ S₀' T T'
  grown_flip start = start
  grown_flip (add g w) = add (grown_flip g) (inclusion_flip w)

  pub same_flip : {S₀ : List (Inclusion A R)} {S₀' : List (Inclusion A' R')} → Same Rel S₀ S₀' → Same (λ C' C. Rel C C') S₀' S₀
  same_flip s = record { bottoms = s.bottoms; within = λ g e c d. let w = s.within (grown_flip g) (inclusion_flip e) c d in (w.1, w.0) }

  pub inclusions_there : (test : Kind → Bool) {ls : List (Line A R)} {ls' : List (Line A' R')} → Pointwise (LineR Rel) ls ls' →
      Pointwise (InclusionR Rel) (inclusions_of test ls) (inclusions_of test ls')
  unfolding inclusions_of
  inclusions_there test nil = nil
  inclusions_there test (cons (kind_kept {k} c d) ls) = kept (test k) (record { lefts = c; rights = d }) (inclusions_there test ls)
    where
      kept : (b : Bool) {ρ : Inclusion A R} {ρ' : Inclusion A' R'} {T : List (Inclusion A R)} {T' : List (Inclusion A' R')} →
          InclusionR Rel ρ ρ' → Pointwise (InclusionR Rel) T T' → Pointwise (InclusionR Rel) (keep_if b ρ T) (keep_if b ρ' T')
      kept true r rs = cons r rs
      kept false r rs = rs

-- ---- definitions: strict lines behind the others

pub data AllStrict {A R : Type 0} : List (Line A R) → Type 0 where
  none_left : AllStrict []
  strict_more : {C D : Concept A R} {ls : List (Line A R)} → AllStrict ls → AllStrict (line strict C D ∷ ls)

pub all_strict_append : {A R : Type 0} {ls ms : List (Line A R)} → AllStrict ls → AllStrict ms → AllStrict (ls ++ ms)
all_strict_append none_left t = t
all_strict_append (strict_more s) t = strict_more (all_strict_append s t)

-- zeros for as many
abbrev pub zeros_for : {X : Type 0} → List X → List ℕ
zeros_for l = replicate (length l) 0

module _ {A R : Type 0} where
  none_defeasible : {defs : List (Line A R)} → AllStrict defs → defeasible_of defs ≡ []
  unfolding inclusions_of
  none_defeasible none_left = refl
  none_defeasible (strict_more s) = none_defeasible s

  defeasible_defs : (ls : List (Line A R)) {defs : List (Line A R)} → AllStrict defs → defeasible_of (ls ++ defs) ≡ defeasible_of ls
  defeasible_defs ls {defs} s = inclusions_append is_defeasible ls defs ∙ ap (λ l. defeasible_of ls ++ l) (none_defeasible s) ∙ append-nil (defeasible_of ls)

  module _ {written T : List (Inclusion A R)} {sets : List (List (Inclusion A R))} where
    results_strict : {defs : List (Line A R)} → AllStrict defs → Results written T sets defs (zeros_for defs)
    results_strict none_left = done
    results_strict (strict_more s) = more of_strict (results_strict s)

    results_defs : {ls defs : List (Line A R)} {rs : List ℕ} → AllStrict defs → Results written T sets ls rs → Results written T sets (ls ++ defs) (rs ++ zeros_for defs)
    results_defs s done = results_strict s
    results_defs s (more r rs) = more r (results_defs s rs)

    strict_zeros : {defs : List (Line A R)} {all : List ℕ} → AllStrict defs → Results written T sets defs all → zeros_for defs ≡ all
    strict_zeros none_left done = refl
    strict_zeros (strict_more s) (more of_strict rs) = ap (λ l. 0 ∷ l) (strict_zeros s rs)

    results_split : (ls : List (Line A R)) {defs : List (Line A R)} {all : List ℕ} → AllStrict defs →
        Results written T sets (ls ++ defs) all → (rs : List ℕ) × (rs ++ zeros_for defs ≡ all) × Results written T sets ls rs
    results_split [] s rs = ([], strict_zeros s rs, done)
    results_split (l ∷ ls) s (more {r} h rs) =
        let t = results_split ls s rs in
        (r ∷ t.0, ap (λ l. r ∷ l) t.1, more h t.2)

    pub results_length : {ls : List (Line A R)} {rs : List ℕ} → Results written T sets ls rs → length rs ≡ length ls
    results_length done = refl
    results_length (more r rs) = ap suc (results_length rs)

at_seam : (rs zs all : List ℕ) (n : ℕ) → length rs ≡ n → rs ++ zs ≡ all → (take n all ≡ rs) × (drop n all ≡ zs)
at_seam rs zs all n e f = rw (← e, ← f) (take-append_seam rs zs, drop-append_seam rs zs)

-- ---- transport

-- Lines have the rational closure that their images have with strict lines behind them that define, and each definition's result is zero.
module _ {A R A' R' : Type 0} {Rel : Concept A R → Concept A' R' → Type 0} {lines : List (Line A R)} {images defs : List (Line A' R')} (defined : AllStrict defs)
    (w : Pointwise (LineR Rel) lines images) (same : Same Rel (strict_of lines) (strict_of (images ++ defs))) where
  pub closure_there : {levels passes : ℕ} {results : List ℕ} →
      RationalClosure lines levels passes results → RationalClosure (images ++ defs) levels passes (results ++ zeros_for defs)
  closure_there s =
      let p = passes_there same start (alike_pointwise (inclusions_there is_defeasible w)) s.passed in
      record {
        T* = p.0;
        sets = p.1;
        passed = rw (defeasible_defs images defined) p.2;
        level_count = s.level_count ∙ pointwise_length p.4;
        reported = results_defs defined (results_there same p.3 p.4 w s.reported);
      }

  pub closure_back : {levels passes : ℕ} (results : List ℕ) →
      RationalClosure (images ++ defs) levels passes (results ++ zeros_for defs) → RationalClosure lines levels passes results
  closure_back results s =
      let p = passes_there (same_flip same) start (alike_pointwise (inclusions_there is_defeasible (lines_flip w))) (rw (defeasible_defs images defined) at s.passed) in
      let t = results_split images defined s.reported in
      let r = results_there (same_flip same) p.3 p.4 (lines_flip w) t.2 in
      let own = subst (λ rs. Results (strict_of lines) p.0 p.1 lines rs) (append_cancel_right t.0 results (zeros_for defs) t.1) r in
      record {
        T* = p.0;
        sets = p.1;
        passed = p.2;
        level_count = s.level_count ∙ pointwise_length p.4;
        reported = own;
      }

  -- What results the images and definitions have: the lines' own, then zeros.
  pub closure_reads : {levels passes : ℕ} {all : List ℕ} → RationalClosure (images ++ defs) levels passes all →
      RationalClosure lines levels passes (take (length lines) all) × (drop (length lines) all ≡ zeros_for defs)
  closure_reads {all} s =
      let t = results_split images defined s.reported in
      let n : length t.0 ≡ length lines = results_length t.2 ∙ sym (pointwise_length w) in
      let parts = at_seam t.0 (zeros_for defs) all (length lines) n t.1 in
      (rw parts.0 (closure_back t.0 (rw t.1 s)), parts.1)
