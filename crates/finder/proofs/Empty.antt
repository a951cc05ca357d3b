-- The finder shows nothing where the text is refused, and where no word of it has the number: the part is empty. Assumes nothing.
use Prim.Native.Nat.{ℕ}
use mathlib.Core.Path.{◌≡◌, refl, ◌∙◌, ap}
use lib.ListN.{take, drop}
use mathlib.Core.List.{List, []}
use Rattle.finder.specs.Contract.{Named, NameSpan, named, unnamed, refused, NameFound}

span_empty : {text : List ℕ} {number start size : ℕ} → NameSpan text number start size → (Named text number → ⊥) → size ≡ 0
span_empty (named {lines} {w} r within m f) out = absurd (out record { lines = lines; reads = r; within = within; word = w; numbered = m })
span_empty (unnamed r w n) out = refl
span_empty (refused n) out = refl

pub unnamed_shows_nothing : {text part : List ℕ} {text_at part_at : ℕ × ℕ} {number : ℕ} → NameFound text part text_at part_at number → (Named text number → ⊥) → part ≡ []
unnamed_shows_nothing {text} f out = f.contents ∙ ap (λ n. take n (drop f.start text)) (span_empty f.span out)
