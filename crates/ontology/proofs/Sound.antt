-- What a reading that has stopped nowhere stands in: every byte leads back from what may follow it to what may stand there. Assumes nothing.
--     Ahead      the bytes that may follow at a point, with the tokens that they go on with
--     Rest       they, where the tokens end the run with these axioms
--     Valid      the points that a reading comes to
--     stepped    a byte keeps a point valid, and leads back
--     completed  every valid point has a rest
use Prim.Native.Nat.{ℕ, ◌<◌, ◌≤◌}
use native.Mathlib.Omega.{arith}
use mathlib.Core.Path.{◌≡◌, refl, sym, ◌∙◌, ap, subst}
use mathlib.Core.Bool.{true, ◌&&◌, ◌||◌, false≢true}
use mathlib.Core.Option.{Option, none, some, some-injective}
use mathlib.Core.List.{List, [], ◌∷◌, ◌++◌, append_assoc, append-nil, Memᴰ}
use lib.ListN.{length, length-append}
use lib.Dec.{eqb, ltb}
use borrow.Author.Tests.{eqb-true, ltb-true}
use Rattle.semantics.proofs.Tests.{cases, both}
use Rattle.semantics.specs.Limits.{word_limit}
use Rattle.semantics.specs.Source.{Word, word_byte}
use Rattle.ontology.specs.Axiom.{Axiom}
use Rattle.ontology.specs.Text.{Token, sub_class_of, annotation, comment, usual, opening, closing, owl_thing, owl_nothing, intersection_of, some_values, name, token_bytes}
use Rattle.ontology.specs.Text.{gap_byte, bracket_byte, Parted, PartedFrom, IsName, WellNamed, Spaced, end, gap, token}
use Rattle.ontology.specs.Points.{Fork, owl, object, Point, between, touching, word, fork, naming, behind_token}
use Rattle.ontology.proofs.Reader.{State, take_token, Reading, reading, is_some, allowed, reading_at, in_token, begin, begin_at, begin_token, step_touching, touching_at, step_at}
use Rattle.ontology.proofs.Tokens.{run_tokens, none_absurd, Names, no_names, the_name, ending, a_name}
use Rattle.ontology.proofs.Complete.{alike, owl_alike, object_alike, names_alike}

-- ---- what may follow

-- the two tokens of a fork, each with its bytes behind those that both have
pub data ForkEnd : Fork → Token → List ℕ → Type 0 where
  thing_end : ForkEnd owl owl_thing (84 ∷ 104 ∷ 105 ∷ 110 ∷ 103 ∷ [])
  nothing_end : ForkEnd owl owl_nothing (78 ∷ 111 ∷ 116 ∷ 104 ∷ 105 ∷ 110 ∷ 103 ∷ [])
  intersection_end : ForkEnd object intersection_of (73 ∷ 110 ∷ 116 ∷ 101 ∷ 114 ∷ 115 ∷ 101 ∷ 99 ∷ 116 ∷ 105 ∷ 111 ∷ 110 ∷ 79 ∷ 102 ∷ [])
  some_end : ForkEnd object some_values (83 ∷ 111 ∷ 109 ∷ 101 ∷ 86 ∷ 97 ∷ 108 ∷ 117 ∷ 101 ∷ 115 ∷ 70 ∷ 114 ∷ 111 ∷ 109 ∷ [])

pub data Ahead : Point → List Token → List ℕ → Type 0 where
  ahead_between : {ts : List Token} {t : List ℕ} → Spaced ts t → Ahead between ts t
  ahead_touching : {ts : List Token} {t : List ℕ} → Parted t → Spaced ts t → Ahead touching ts t
  ahead_word : {cs rest t : List ℕ} {k : Token} {ts : List Token} → WellNamed k → PartedFrom k rest → Spaced ts rest → t ≡ cs ++ rest → Ahead (word cs k) (k ∷ ts) t
  ahead_fork : {cs last rest t : List ℕ} {f : Fork} {k : Token} {ts : List Token} →
      ForkEnd f k last → PartedFrom k rest → Spaced ts rest → t ≡ cs ++ (last ++ rest) → Ahead (fork cs f) (k ∷ ts) t
  ahead_name : {u w : Word} {rest t : List ℕ} {ts : List Token} (v : Word) → u ≡ w ++ v → IsName u → Parted rest → Spaced ts rest → t ≡ v ++ rest → Ahead (naming w) (name u ∷ ts) t

pub record Rest (s : State) (p : Point) (all : List Axiom) (t : List ℕ) : Type 0 where
  pub tokens : List Token
  pub runs : run_tokens tokens s ≡ some all
  pub ahead : Ahead p tokens t

-- ---- valid points

abbrev fork_token : Fork → Token
fork_token owl = owl_thing
fork_token object = intersection_of

pub record Begun (w : Word) : Type 0 where
  pub bytes : (b : ℕ) → Memᴰ b w → word_byte b ≡ true
  pub short : length w ≤ word_limit

abbrev pub Valid : State → Point → Type 0
Valid s between = Unit {0}
Valid s touching = Unit {0}
Valid s (word cs t) = (allowed s t ≡ true) × WellNamed t
Valid s (fork cs f) = allowed s (fork_token f) ≡ true
Valid s (naming w) = (allowed s (name w) ≡ true) × Begun w

pub record Stepped (s : State) (p : Point) (b : ℕ) (r : Reading) : Type 0 where
  pub valid : Valid r.state r.point
  pub back : (all : List Axiom) (t : List ℕ) → Rest r.state r.point all t → Rest s p all (b ∷ t)

-- ---- a token's end

behind_valid : (s : State) (t : Token) → Valid s (behind_token t)
behind_valid s sub_class_of = tt
behind_valid s annotation = tt
behind_valid s comment = tt
behind_valid s usual = tt
behind_valid s opening = tt
behind_valid s closing = tt
behind_valid s owl_thing = tt
behind_valid s owl_nothing = tt
behind_valid s intersection_of = tt
behind_valid s some_values = tt
behind_valid s (name w) = tt

behind_parted : (k : Token) {ts : List Token} {t : List ℕ} → Ahead (behind_token k) ts t → PartedFrom k t × Spaced ts t
unfolding PartedFrom
behind_parted sub_class_of (ahead_between l) = (tt, l)
behind_parted annotation (ahead_between l) = (tt, l)
behind_parted comment (ahead_between l) = (tt, l)
behind_parted usual (ahead_between l) = (tt, l)
behind_parted opening (ahead_between l) = (tt, l)
behind_parted closing (ahead_between l) = (tt, l)
behind_parted owl_thing (ahead_touching p l) = (p, l)
behind_parted owl_nothing (ahead_touching p l) = (p, l)
behind_parted intersection_of (ahead_between l) = (tt, l)
behind_parted some_values (ahead_between l) = (tt, l)
behind_parted (name w) (ahead_touching p l) = (p, l)

-- within a token, before these bytes
record Inside (s : State) (cs : List ℕ) (k : Token) (r : Reading) : Type 0 where
  pub valid : Valid r.state r.point
  pub back : (all : List Axiom) (t : List ℕ) → Rest r.state r.point all t → Rest s (word cs k) all t

module _ (s : State) (k : Token) (r : Reading) (n : WellNamed k) (a : allowed s k ≡ true) where
  inside : (cs : List ℕ) → in_token s cs k ≡ some r → Inside s cs k r
  unfolding run_tokens
  inside [] e = go (take_token s k) refl e
    where
      go : (o : Option State) → take_token s k ≡ o → reading_at (behind_token k) o ≡ some r → Inside s [] k r
      go none q e = none_absurd r e
      go (some s') q e = subst (Inside s [] k) (some-injective (reading s' (behind_token k)) r e)
          record {
            valid = behind_valid s' k;
            back = λ all t x.
                let h = behind_parted k x.ahead in
                record { tokens = k ∷ x.tokens; runs = rw q x.runs; ahead = ahead_word n h.0 h.1 refl };
          }
  inside (c ∷ cs) e = subst (Inside s (c ∷ cs) k) (some-injective (reading s (word (c ∷ cs) k)) r e) record { valid = (a, n); back = λ all t x. x }

-- ---- a token's beginning

word_between : {s : State} {all : List Axiom} {t : List ℕ} (k : Token) (b : ℕ) (cs : List ℕ) → token_bytes k ≡ b ∷ cs → Rest s (word cs k) all t → Rest s between all (b ∷ t)
word_between {t = t} k b cs e x = record { tokens = x.tokens; runs = x.runs; ahead = go x.ahead }
  where
    go : {ts : List Token} → Ahead (word cs k) ts t → Ahead between ts (b ∷ t)
    go (ahead_word n p l q) = ahead_between (token n p l (ap (b ∷◌) q ∙ rw e))

fork_between : {s : State} {all : List Axiom} {t : List ℕ} → Rest s (fork (119 ∷ 108 ∷ 58 ∷ []) owl) all t → Rest s between all (111 ∷ t)
unfolding WellNamed token_bytes
fork_between {t = t} x = record { tokens = x.tokens; runs = x.runs; ahead = go x.ahead }
  where
    go : {ts : List Token} → Ahead (fork (119 ∷ 108 ∷ 58 ∷ []) owl) ts t → Ahead between ts (111 ∷ t)
    go (ahead_fork thing_end p l q) = ahead_between (token tt p l (ap (111 ∷◌) q))
    go (ahead_fork nothing_end p l q) = ahead_between (token tt p l (ap (111 ∷◌) q))

object_between : {s : State} {all : List Axiom} {t : List ℕ} → Rest s (fork (98 ∷ 106 ∷ 101 ∷ 99 ∷ 116 ∷ []) object) all t → Rest s between all (79 ∷ t)
unfolding WellNamed token_bytes
object_between {t = t} x = record { tokens = x.tokens; runs = x.runs; ahead = go x.ahead }
  where
    go : {ts : List Token} → Ahead (fork (98 ∷ 106 ∷ 101 ∷ 99 ∷ 116 ∷ []) object) ts t → Ahead between ts (79 ∷ t)
    go (ahead_fork intersection_end p l q) = ahead_between (token tt p l (ap (79 ∷◌) q))
    go (ahead_fork some_end p l q) = ahead_between (token tt p l (ap (79 ∷◌) q))

name_between : {s : State} {all : List Axiom} {t : List ℕ} → Rest s (naming []) all t → Rest s between all (58 ∷ t)
unfolding WellNamed token_bytes PartedFrom
name_between {t = t} x = record { tokens = x.tokens; runs = x.runs; ahead = go x.ahead }
  where
    go : {ts : List Token} → Ahead (naming []) ts t → Ahead between ts (58 ∷ t)
    go (ahead_name {u = u} {rest = rest} v h i p l q) = let e : v ++ rest ≡ u ++ rest = rw h in ahead_between (token i p l (ap (58 ∷◌) (q ∙ e)))

module _ (s : State) (b : ℕ) (r : Reading) where
  begin_stepped : (k : Token) (cs : List ℕ) → token_bytes k ≡ b ∷ cs → WellNamed k → begin s k ≡ some r → Stepped s between b r
  begin_stepped k cs h n e = cases (allowed s k)
      (λ a. let i = inside s k r n a cs (rw (a, h) at e) in record { valid = i.valid; back = λ all t x. word_between k b cs h (i.back all t x) })
      (λ a. none_absurd r (rw a at e))

  -- a token of which only the kind is known as yet
  at_stepped : (k : Token) (p : Point) → (allowed s k ≡ true → Valid s p) → ((all : List Axiom) (t : List ℕ) → Rest s p all t → Rest s between all (b ∷ t)) →
      begin_at s k p ≡ some r → Stepped s between b r
  at_stepped k p v back e = cases (allowed s k)
      (λ a. subst (Stepped s between b) (some-injective (reading s p) r (rw a at e)) record { valid = v a; back = back })
      (λ a. none_absurd r (rw a at e))

none_mem : {X : Type 0} {b : ℕ} → Memᴰ b [] → X
none_mem = elim [ ]

begun_stepped : (s : State) (b : ℕ) (r : Reading) → begin_token s b ≡ some r → Stepped s between b r
unfolding begin_token token_bytes WellNamed
begun_stepped s b r e = cases (eqb b 83) (λ q. let h = eqb-true b 83 q in rw h (begin_stepped s 83 r sub_class_of _ refl tt (rw h at e))) λ q1.
    cases (eqb b 65) (λ q. let h = eqb-true b 65 q in rw h (begin_stepped s 65 r annotation _ refl tt (rw h at e))) λ q2.
    cases (eqb b 114) (λ q. let h = eqb-true b 114 q in rw h (begin_stepped s 114 r comment _ refl tt (rw h at e))) λ q3.
    cases (eqb b 34) (λ q. let h = eqb-true b 34 q in rw h (begin_stepped s 34 r usual _ refl tt (rw h at e))) λ q4.
    cases (eqb b 40) (λ q. let h = eqb-true b 40 q in rw h (begin_stepped s 40 r opening _ refl tt (rw h at e))) λ q5.
    cases (eqb b 41) (λ q. let h = eqb-true b 41 q in rw h (begin_stepped s 41 r closing _ refl tt (rw h at e))) λ q6.
    cases (eqb b 111) (λ q. let h = eqb-true b 111 q in rw h (at_stepped s 111 r owl_thing _ (λ a. a) (λ all t x. fork_between x) (rw h at e))) λ q7.
    cases (eqb b 79) (λ q. let h = eqb-true b 79 q in rw h (at_stepped s 79 r intersection_of _ (λ a. a) (λ all t x. object_between x) (rw h at e))) λ q8.
    cases (eqb b 58)
    (λ q. let h = eqb-true b 58 q in
    rw h (at_stepped s 58 r (name []) _ (λ a. (a, record { bytes = λ c m. none_mem m; short = omega arith })) (λ all t x. name_between x) (rw h at e)))
    λ q9. none_absurd r (rw (q1, q2, q3, q4, q5, q6, q7, q8, q9) at e)

-- ---- one byte

gap_back : (s : State) (b : ℕ) (all : List Axiom) (t : List ℕ) → gap_byte b ≡ true → Rest s between all t → Rest s between all (b ∷ t)
gap_back s b all t g x = record { tokens = x.tokens; runs = x.runs; ahead = go x.ahead }
  where
    go : {ts : List Token} → Ahead between ts t → Ahead between ts (b ∷ t)
    go (ahead_between l) = ahead_between (gap g l refl)

touching_back : (s : State) (b : ℕ) (all : List Axiom) (t : List ℕ) → (gap_byte b || bracket_byte b) ≡ true → Rest s between all (b ∷ t) → Rest s touching all (b ∷ t)
touching_back s b all t g x = record { tokens = x.tokens; runs = x.runs; ahead = go x.ahead }
  where
    go : {ts : List Token} → Ahead between ts (b ∷ t) → Ahead touching ts (b ∷ t)
    go (ahead_between l) = ahead_touching record { byte = b; others = t; begins = refl; parts = g } l

module _ (s : State) (b : ℕ) (r : Reading) where
  touching_stepped : step_touching s b ≡ some r → Stepped s touching b r
  unfolding step_touching
  touching_stepped e = cases (gap_byte b)
      (λ g. subst (Stepped s touching b) (some-injective (reading s between) r (rw g at e))
      record { valid = tt; back = λ all t x. touching_back s b all t (rw g) (gap_back s b all t g x) })
      (λ g. cases (bracket_byte b)
      (λ h. let k = begun_stepped s b r (rw (g, h) at e) in record { valid = k.valid; back = λ all t x. touching_back s b all t (rw (g, h)) (k.back all t x) })
      (λ h. none_absurd r (rw (g, h) at e)))

  between_stepped : step_at s between b ≡ some r → Stepped s between b r
  unfolding step_at
  between_stepped e = cases (gap_byte b)
      (λ g. subst (Stepped s between b) (some-injective (reading s between) r (rw g at e)) record { valid = tt; back = λ all t x. gap_back s b all t g x })
      (λ g. begun_stepped s b r (rw g at e))

  word_stepped : (cs : List ℕ) (k : Token) → Valid s (word cs k) → step_at s (word cs k) b ≡ some r → Stepped s (word cs k) b r
  unfolding step_at
  word_stepped [] k v e = none_absurd r e
  word_stepped (c ∷ cs) k v e = cases (eqb b c)
      (λ q.
      let i = inside s k r v.1 v.0 cs (rw q at e) in
      record { valid = i.valid; back = λ all t x. let y = i.back all t x in record { tokens = y.tokens; runs = y.runs; ahead = go (eqb-true b c q) y.ahead } })
      (λ q. none_absurd r (rw q at e))
    where
      go : {ts : List Token} {t : List ℕ} → b ≡ c → Ahead (word cs k) ts t → Ahead (word (c ∷ cs) k) ts (b ∷ t)
      go {t = t} h (ahead_word n p l q) = ahead_word n p l (ap (◌∷ t) h ∙ ap (c ∷◌) q)

  -- the byte in which two tokens differ
  end_stepped : (f : Fork) (k : Token) (c : ℕ) (cs : List ℕ) → b ≡ c → ForkEnd f k (c ∷ cs) → WellNamed k → allowed s k ≡ true →
      some (reading s (word cs k)) ≡ some r → Stepped s (fork [] f) b r
  end_stepped f k c cs h z n a e = subst (Stepped s (fork [] f) b) (some-injective (reading s (word cs k)) r e)
      record { valid = (a, n); back = λ all t x. record { tokens = x.tokens; runs = x.runs; ahead = go x.ahead } }
    where
      go : {ts : List Token} {t : List ℕ} → Ahead (word cs k) ts t → Ahead (fork [] f) ts (b ∷ t)
      go {t = t} (ahead_word n p l q) = ahead_fork z p l (ap (◌∷ t) h ∙ ap (c ∷◌) q)

  fork_stepped : (cs : List ℕ) (f : Fork) → Valid s (fork cs f) → step_at s (fork cs f) b ≡ some r → Stepped s (fork cs f) b r
  unfolding step_at WellNamed
  fork_stepped [] owl v e = cases (eqb b 84)
      (λ q. end_stepped owl owl_thing 84 _ (eqb-true b 84 q) thing_end tt v (rw q at e))
      (λ q. cases (eqb b 78)
      (λ h. end_stepped owl owl_nothing 78 _ (eqb-true b 78 h) nothing_end tt (sym (alike owl_alike s) ∙ v) (rw (q, h) at e))
      (λ h. none_absurd r (rw (q, h) at e)))
  fork_stepped [] object v e = cases (eqb b 73)
      (λ q. end_stepped object intersection_of 73 _ (eqb-true b 73 q) intersection_end tt v (rw q at e))
      (λ q. cases (eqb b 83)
      (λ h. end_stepped object some_values 83 _ (eqb-true b 83 h) some_end tt (sym (alike object_alike s) ∙ v) (rw (q, h) at e))
      (λ h. none_absurd r (rw (q, h) at e)))
  fork_stepped (c ∷ cs) f v e = cases (eqb b c)
      (λ q. subst (Stepped s (fork (c ∷ cs) f) b) (some-injective (reading s (fork cs f)) r (rw q at e))
      record { valid = v; back = λ all t x. record { tokens = x.tokens; runs = x.runs; ahead = go (eqb-true b c q) x.ahead } })
      (λ q. none_absurd r (rw q at e))
    where
      go : {ts : List Token} {t : List ℕ} → b ≡ c → Ahead (fork cs f) ts t → Ahead (fork (c ∷ cs) f) ts (b ∷ t)
      go {t = t} h (ahead_fork z p l q) = ahead_fork z p l (ap (◌∷ t) h ∙ ap (c ∷◌) q)

bytes_append : (b : ℕ) (w : Word) → ((c : ℕ) → Memᴰ c w → word_byte c ≡ true) → word_byte b ≡ true → (c : ℕ) → Memᴰ c (w ++ (b ∷ [])) → word_byte c ≡ true
bytes_append b [] f h c (Memᴰ.head e) = rw e h
bytes_append b [] f h c (Memᴰ.tail m) = none_mem m
bytes_append b (d ∷ w) f h c (Memᴰ.head e) = f c (Memᴰ.head e)
bytes_append b (d ∷ w) f h c (Memᴰ.tail m) = bytes_append b w (λ x i. f x (Memᴰ.tail i)) h c m

module _ (s : State) (b : ℕ) (r : Reading) (w : Word) (v : Valid s (naming w)) where
  name_goes : word_byte b ≡ true → length w < word_limit → some (reading s (naming (w ++ (b ∷ [])))) ≡ some r → Stepped s (naming w) b r
  name_goes h l e = subst (Stepped s (naming w) b) (some-injective (reading s (naming (w ++ (b ∷ [])))) r e)
      record {
        valid = (
          sym (alike (names_alike w (w ++ (b ∷ []))) s) ∙ v.0,
          record { bytes = bytes_append b w v.1.bytes h; short = omega (arith, length-append w (b ∷ [])) },
        );
        back = λ all t x. record { tokens = x.tokens; runs = x.runs; ahead = go x.ahead };
      }
    where
      go : {ts : List Token} {t : List ℕ} → Ahead (naming (w ++ (b ∷ []))) ts t → Ahead (naming w) ts (b ∷ t)
      go (ahead_name z h i p l q) = ahead_name (b ∷ z) (h ∙ append_assoc w (b ∷ []) z) i p l (ap (b ∷◌) q)

  name_ends : 0 < length w → (o : Option State) → take_token s (name w) ≡ o → touching_at o b ≡ some r → Stepped s (naming w) b r
  unfolding run_tokens
  name_ends h none q e = none_absurd r e
  name_ends h (some s') q e =
      let k = touching_stepped s' b r e in
      record {
        valid = k.valid;
        back = λ all t x.
            let y = k.back all t x in
            record { tokens = name w ∷ y.tokens; runs = rw q y.runs; ahead = go y.ahead };
      }
    where
      go : {ts : List Token} {t : List ℕ} → Ahead touching ts t → Ahead (naming w) (name w ∷ ts) t
      go (ahead_touching p l) =
          ahead_name [] (sym (append-nil w)) record { word = record { nonempty = h; bytes = v.1.bytes }; short = v.1.short } p l refl

  naming_stepped : step_at s (naming w) b ≡ some r → Stepped s (naming w) b r
  unfolding step_at
  naming_stepped e = cases (word_byte b && ltb (length w) word_limit)
      (λ q. let h = both (word_byte b) (ltb (length w) word_limit) q in name_goes h.0 (ltb-true (length w) word_limit h.1) (rw q at e))
      (λ q. cases (ltb 0 (length w))
      (λ h. name_ends (ltb-true 0 (length w) h) (take_token s (name w)) refl (rw (q, h) at e))
      (λ h. none_absurd r (rw (q, h) at e)))

pub stepped : (s : State) (p : Point) (b : ℕ) (r : Reading) → Valid s p → step_at s p b ≡ some r → Stepped s p b r
unfolding step_at
stepped s between b r v e = between_stepped s b r e
stepped s touching b r v e = touching_stepped s b r e
stepped s (word cs k) b r v e = word_stepped s b r cs k v e
stepped s (fork cs f) b r v e = fork_stepped s b r cs f v e
stepped s (naming w) b r v e = naming_stepped s b r w v e

-- ---- every valid point has a rest

pub record Completed (s : State) (p : Point) : Type 0 where
  pub all : List Axiom
  pub rest : List ℕ
  pub goes : Rest s p all rest

space_parted : (k : Token) (t : List ℕ) → PartedFrom k (32 ∷ t)
unfolding PartedFrom
space_parted sub_class_of t = tt
space_parted annotation t = tt
space_parted comment t = tt
space_parted usual t = tt
space_parted opening t = tt
space_parted closing t = tt
space_parted owl_thing t = record { byte = 32; others = t; begins = refl; parts = refl }
space_parted owl_nothing t = record { byte = 32; others = t; begins = refl; parts = refl }
space_parted intersection_of t = tt
space_parted some_values t = tt
space_parted (name w) t = record { byte = 32; others = t; begins = refl; parts = refl }

-- each token with a space behind it
unfoldable plainly : List Token → List ℕ
plainly [] = []
plainly (k ∷ ts) = token_bytes k ++ (32 ∷ plainly ts)

plainly_spaced : {ts : List Token} → Names ts → Spaced ts (plainly ts)
unfolding plainly
plainly_spaced no_names = end
plainly_spaced (the_name {t = k} n l) = token n (space_parted k _) (gap refl (plainly_spaced l) refl) refl

-- the token, a space, and what ends the run then
record Then (s : State) (k : Token) : Type 0 where
  pub all : List Axiom
  pub more : List Token
  pub runs : run_tokens (k ∷ more) s ≡ some all
  pub rest : List ℕ
  pub spaced : Spaced more (32 ∷ rest)

then_end : (s : State) (k : Token) → allowed s k ≡ true → Then s k
unfolding run_tokens
then_end s k a = go (take_token s k) refl a
  where
    go : (o : Option State) → take_token s k ≡ o → is_some o ≡ true → Then s k
    go none q h = absurd (false≢true h)
    go (some s') q h =
        let e = ending s' in
        record { all = e.all; more = e.tokens; runs = rw q e.runs; rest = plainly e.tokens; spaced = gap refl (plainly_spaced e.names) refl }

naming_completed : (s : State) (w v : Word) → allowed s (name w) ≡ true → IsName (w ++ v) → Completed s (naming w)
unfolding PartedFrom
naming_completed s w v a i =
    let x = then_end s (name (w ++ v)) (sym (alike (names_alike w (w ++ v)) s) ∙ a) in
    record { all = x.all; rest = v ++ (32 ∷ x.rest); goes = record { tokens = name (w ++ v) ∷ x.more; runs = x.runs; ahead = ahead_name v refl i (space_parted (name w) _) x.spaced refl } }

pub completed : (s : State) (p : Point) → Valid s p → Completed s p
unfolding WellNamed PartedFrom
completed s between v =
    let e = ending s in
    record { all = e.all; rest = plainly e.tokens; goes = record { tokens = e.tokens; runs = e.runs; ahead = ahead_between (plainly_spaced e.names) } }
completed s touching v =
    let e = ending s in
    record {
      all = e.all;
      rest = 32 ∷ plainly e.tokens;
      goes = record { tokens = e.tokens; runs = e.runs; ahead = ahead_touching (space_parted owl_thing _) (gap refl (plainly_spaced e.names) refl) };
    }
completed s (word cs k) v =
    let x = then_end s k v.0 in
    record { all = x.all; rest = cs ++ (32 ∷ x.rest); goes = record { tokens = k ∷ x.more; runs = x.runs; ahead = ahead_word v.1 (space_parted k _) x.spaced refl } }
completed s (fork cs owl) v =
    let x = then_end s owl_thing v in
    record { all = x.all; rest = _; goes = record { tokens = owl_thing ∷ x.more; runs = x.runs; ahead = ahead_fork {cs = cs} thing_end (space_parted owl_thing _) x.spaced refl } }
completed s (fork cs object) v =
    let x = then_end s intersection_of v in
    record { all = x.all; rest = _; goes = record { tokens = intersection_of ∷ x.more; runs = x.runs; ahead = ahead_fork {cs = cs} intersection_end tt x.spaced refl } }
completed s (naming []) v = naming_completed s [] (97 ∷ []) v.0 a_name
completed s (naming (b ∷ w)) v =
    naming_completed s (b ∷ w) [] v.0 (rw append-nil record { word = record { nonempty = omega arith; bytes = v.1.bytes }; short = v.1.short })
