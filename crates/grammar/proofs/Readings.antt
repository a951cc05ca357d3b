-- What a reading that is not refused has read.
--     Kept          a later state: nothing that was known of a number has changed
--     ConceptRead   a concept, its text, and its numbers
--     LineRead      a line
-- Assumes nothing.
use Prim.Native.Nat.{ℕ, ◌<◌, ◌≤◌}
use mathlib.Core.Path.{◌≡◌}
use mathlib.Core.List.{List, ◌++◌}
use lib.ListN.{length, get_or, drop}
use Rattle.semantics.specs.Limits.{depth_limit}
use Rattle.semantics.specs.Numbering.{own_row}
use Rattle.semantics.specs.Source.{Word, ConceptSyntax, LineSyntax, line_meant, concept_bytes, line_bytes, WellFormed, WellFormedLine}
use Rattle.grammar.proofs.SyntaxMeasures.{number_syntax, syntax_depth, ShortSyntax}
use Rattle.concepts.specs.Reader.{read_concept}
use Rattle.source.specs.Lines.{read_line, line_row, definitions}
use Rattle.chains.specs.declared.Sort.TheVariants.{Concepts}
use Rattle.names.specs.State.{State, next_concept}
use Rattle.std.specs.Prelude.{Ok}
use Rattle.grammar.specs.Occurrences.{concept_occurrences, line_occurrences}
use Rattle.grammar.specs.StateNames.{state_names}
use Rattle.grammar.proofs.StateNames.{Valid}
use Rattle.grammar.proofs.FirstOccurrences.{Placed}

pub record Kept (s t : State) : Type 0 where
  pub more : next_concept s ≤ next_concept t
  pub starts : (n : ℕ) → n < next_concept s → get_or (t.lists Concepts).starts n 0 ≡ get_or (s.lists Concepts).starts n 0
  pub lengths : (n : ℕ) → n < next_concept s → get_or (t.lists Concepts).lengths n 0 ≡ get_or (s.lists Concepts).lengths n 0
  pub lefts : (n : ℕ) → n < next_concept s → get_or t.lefts n 0 ≡ get_or s.lefts n 0
  pub rights : (n : ℕ) → n < next_concept s → get_or t.rights n 0 ≡ get_or s.rights n 0

pub record ConceptRead (allowance : ℕ) (text : List ℕ) (s t : State) (at x next : ℕ) : Type 0 where
  pub concept : ConceptSyntax
  pub words : WellFormed concept
  pub short : ShortSyntax concept
  pub shallow : syntax_depth concept ≤ allowance
  pub spelled : drop at text ≡ concept_bytes concept ++ drop next text
  pub later : at < next
  pub inside : next ≤ length text
  pub number : (number_syntax concept (state_names text s)).number ≡ x
  pub after : (number_syntax concept (state_names text s)).after ≡ state_names text t
  pub rows : definitions text t ≡ definitions text s ++ (number_syntax concept (state_names text s)).rows
  pub kept : Kept s t
  pub placed : (occurrences : List (Word × ℕ)) → Placed text s occurrences → Placed text t (occurrences ++ concept_occurrences at concept)
  pub valid : Valid text t

abbrev pub ConceptSound : Type 0
ConceptSound =
    (allowance : ℕ) (text : List ℕ) (s : State) (at x next : ℕ) → Valid text s → (read_concept allowance text s at).step ≡ Ok (x, next) →
    ConceptRead allowance text s (read_concept allowance text s at).names at x next

pub record LineRead (text : List ℕ) (s t : State) (at kind next : ℕ) : Type 0 where
  pub line : LineSyntax
  pub words : WellFormedLine line
  pub short : ShortSyntax line.left × ShortSyntax line.right
  pub shallow : (syntax_depth line.left ≤ depth_limit) × (syntax_depth line.right ≤ depth_limit)
  pub spelled : drop at text ≡ line_bytes line ++ drop next text
  pub later : at < next
  pub inside : next ≤ length text
  pub row :
      let c = number_syntax line.left (state_names text s) in
      let d = number_syntax line.right c.after in
      line_row t kind ≡ own_row (line_meant line) c.number d.number
  pub after :
      let c = number_syntax line.left (state_names text s) in
      (number_syntax line.right c.after).after ≡ state_names text t
  pub rows :
      let c = number_syntax line.left (state_names text s) in
      let d = number_syntax line.right c.after in
      definitions text t ≡ definitions text s ++ (c.rows ++ d.rows)
  pub placed : (occurrences : List (Word × ℕ)) → Placed text s occurrences → Placed text t (occurrences ++ line_occurrences at line)
  pub valid : Valid text t

abbrev pub LineSound : Type 0
LineSound =
    (text : List ℕ) (s : State) (at kind next : ℕ) → Valid text s → (read_line text s at).step ≡ Ok (kind, next) →
    LineRead text s (read_line text s at).names at kind next
