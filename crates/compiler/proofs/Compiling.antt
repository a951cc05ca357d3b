-- What `compile` finds: a refusal, or an accepted text, whose rows have room and whose normal form is handed over.
-- Assumes nothing.
use Prim.Native.Nat.{ℕ, ◌+◌, ◌<◌, ◌≤◌}
use native.Mathlib.Omega.{arith}
use native.Mathlib.Decide.{dec_le}
use mathlib.Core.Path.{◌≡◌, sym, ◌∙◌, ap, ap₂, subst}
use mathlib.Core.Option.{none, some}
use mathlib.Core.List.Memᴰ
use mathlib.Core.List.{List, ◌++◌, map, map-append, Memᴰ}
use mathlib.Core.Logic.{◌↔◌}
use lib.ListN.{length, take, length-append, length-map}
use borrow.Author.Tests.{lt-ltb, le-ltb}
use Rattle.semantics.specs.Limits.{text_limit, row_limit}
use Rattle.semantics.specs.Numbering.{no_names, number_lines, normal_rows}
use Rattle.semantics.specs.Row.{in_exist, pack}
use Rattle.semantics.proofs.Counts.{normal_below}
use Rattle.refusal.specs.declared.Refusal.{Refusal}
use Rattle.refusal.specs.declared.Refusal.TheVariants.{TextTooLong, BufferTooShort}
use Rattle.source.specs.Lines.{read_text, definitions, TextRead}
use Rattle.source.proofs.Lines.{overlaid_length, overlaid_take}
use Rattle.chains.specs.declared.Sort.TheVariants.{Concepts, Roles}
use Rattle.names.specs.State.{Ending}
use Rattle.std.specs.Prelude.{Ok, Err}
use Rattle.refusal.specs.declared.Refused.{Refused}
use Rattle.grammar.specs.Accepted.{TextAcceptable, TextNumbered}
use Rattle.grammar.specs.Limits.{names_after}
use Rattle.grammar.proofs.AcceptsDecides.{accepts_decides, accepted_numbers, lines_length}
use Rattle.compiler.specs.Contract.{reader_refusal, compile_refusal, NormalForm}
use Rattle.compiler.specs.Refused.{BookRefused}
use Rattle.compiler.specs.Steps.{ReadyToWrite, RowsWritten}
use Rattle.compiler.specs.declared.Sizes.{Sizes}
use Rattle.compiler.proofs.Refusing.{InOrder, in_order_accepts, in_order_refuses}

-- ---- refusals

pub refusal_long : (text : List ℕ) (lent : ℕ) → text_limit < length text → compile_refusal text lent ≡ some (TextTooLong, 0)
unfolding compile_refusal
refusal_long text lent h = rw (lt-ltb _ _ h)

pub refusal_short : (text : List ℕ) (lent : ℕ) → length text ≤ text_limit → lent < row_limit → compile_refusal text lent ≡ some (BufferTooShort, 0)
unfolding compile_refusal
refusal_short text lent short h = rw (le-ltb _ _ short, lt-ltb _ _ h)

refusal_later : (text : List ℕ) (lent : ℕ) → length text ≤ text_limit → row_limit ≤ lent → compile_refusal text lent ≡ reader_refusal (read_text text).reading.step
unfolding compile_refusal
refusal_later text lent short long = rw (le-ltb _ _ short, le-ltb _ _ long)

-- first the text's length, then the deck's, then the reader
pub compile_order : (text : List ℕ) (lent : ℕ) → InOrder (row_limit ≤ lent) text (compile_refusal text lent)
compile_order text lent = record {
  first = refusal_long text lent;
  second = λ short n. refusal_short text lent short (omega arith);
  third = refusal_later text lent;
}

pub compile_accepts : (text : List ℕ) (lent : ℕ) → (compile_refusal text lent ≡ none) ↔ (TextAcceptable text × (row_limit ≤ lent))
compile_accepts text lent = in_order_accepts (compile_order text lent) (dec_le row_limit lent)

pub compile_refuses : (text : List ℕ) (lent p : ℕ) (why : Refusal) → (compile_refusal text lent ≡ some (why, p)) ↔ BookRefused (row_limit ≤ lent) text p why
compile_refuses text lent = in_order_refuses (compile_order text lent) (dec_le row_limit lent)

module _ {text before rows : List ℕ} {r : Ending} (t : TextRead text before rows r) where
  module _ (lent : ℕ) (short : length text ≤ text_limit) (long : row_limit ≤ lent) where
    as_read : compile_refusal text lent ≡ reader_refusal r.step
    as_read = refusal_later text lent short long ∙ ap (λ q. reader_refusal q.step) (sym t.reading)

    pub refusal_read : {e : Refused} → r.step ≡ Err e → compile_refusal text lent ≡ some (e.why, e.place)
    refusal_read a = as_read ∙ ap reader_refusal a

    pub refusal_none : {count end : ℕ} → r.step ≡ Ok (count, end) → compile_refusal text lent ≡ none
    refusal_none a = as_read ∙ ap reader_refusal a

  -- ---- rows

  module _ {count end : ℕ} (a : r.step ≡ Ok (count, end)) where
    accepted : (read_text text).reading.step ≡ Ok (count, end)
    accepted = ap (λ q. q.step) (sym t.reading) ∙ a

    lines_of : TextAcceptable text
    lines_of = (accepts_decides text).0 record { count = count; end = end; read = accepted }

    numbered : TextNumbered text lines_of.lines count end
    numbered = accepted_numbers lines_of.reads accepted

    numbers : (r.names.lists Concepts).used ≡ (names_after lines_of.lines).next
    numbers = ap (λ q. (q.names.lists Concepts).used) t.reading ∙ numbered.numbers

    defined : definitions text r.names ≡ (number_lines lines_of.lines no_names).definitions
    defined = ap (λ q. definitions text q.names) t.reading ∙ numbered.definition_rows

    own_count : length (map pack (read_text text).rows) ≡ count
    own_count = length-map (read_text text).rows pack ∙ ap length numbered.line_rows ∙ lines_length lines_of.lines no_names ∙ sym numbered.counted

    all_count : count + length (definitions text r.names) ≡ length (normal_rows lines_of.lines)
    all_count =
        let n = number_lines lines_of.lines no_names in
        omega (arith, lines_length lines_of.lines no_names, numbered.counted, ap length defined, length-append n.line_rows n.definitions)

    module _ (whole : length before ≡ row_limit) where
      room : count + length (definitions text r.names) ≤ length before
      room = omega (arith, all_count, lines_of.within.rows)

      -- the definition rows can be written behind the lines' own
      pub read_before : {deck : List ℕ} → row_limit ≤ length deck → ReadyToWrite text r.names count rows deck
      read_before long =
          let w = lines_of.within.within in
          let n = number_lines lines_of.lines no_names in
          let size = ap length t.rows ∙ overlaid_length (map pack (read_text text).rows) before in
          record {
            few = omega (arith, numbers, w.numbers);
            writable = record {
              roles = λ x s c m.
                  let b = (normal_below lines_of.lines).each (in_exist x s c) (Memᴰ.append_right n.line_rows (subst (λ rs. Memᴰ (in_exist x s c) rs) defined m)) in
                  omega (arith, b.1, w.roles);
              room = omega (arith, room, size);
            };
            long = omega (arith, size);
          }

      own_words : take count rows ≡ map pack (read_text text).rows
      own_words =
          let words = map pack (read_text text).rows in
          ap₂ take (sym own_count) t.rows ∙ overlaid_take words before (omega (arith, room, own_count))

      -- what is handed over is the normal form
      pub handed_over : {deck₀ deck : List ℕ} {c : Sizes} → RowsWritten text r.names count rows deck₀ deck c → NormalForm text deck₀ deck c
      handed_over h =
          let n = number_lines lines_of.lines no_names in
          record {
            lines = lines_of.lines;
            reads = lines_of.reads;
            within = lines_of.within;
            line_count = h.line_count ∙ numbered.counted;
            row_count = h.row_count ∙ all_count;
            number_count = h.number_count ∙ numbers;
            role_count = h.role_count ∙ ap (λ q. (q.names.lists Roles).used) t.reading ∙ numbered.roles;
            rows = h.written ∙ ap₂ ◌++◌ (own_words ∙ ap (map pack) numbered.line_rows) (ap (map pack) defined) ∙ sym (map-append pack n.line_rows n.definitions);
            rest_kept = h.rest_kept;
            length_kept = h.length_kept;
          }
