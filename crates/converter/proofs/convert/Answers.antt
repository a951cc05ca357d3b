-- `convert` meets its contract. Assumes nothing.
use borrow.Author.Rules.{rules}
use Rattle.std.proofs.lemmas.Result.{err_from_is_err_and}
use Rattle.converter.proofs.Converting.{converted_long, converted_stop, converted_book}
use Rattle.converter.proofs.convert.Goals as goal

pub returns-then-input-gt-TEXT : goal.returns-then-input-gt-TEXT
returns-then-input-gt-TEXT c = rw c.at.ensures (converted_long _ _ c.if-input-gt-TEXT.true)

pub returns-in_err-size : goal.returns-in_err-size
returns-in_err-size c =
    let p = err_from_is_err_and c.from_residual.result c.from_residual.ensures.1 in
    rw (p.1, p.2) (converted_stop _ _ c.if-input-gt-TEXT.false _ _ c.read_run.ensures c.map_err.ensures.cases (λ p x q. search rules) c.in_err-size.was)

pub returns : goal.returns
returns c = converted_book _ _ c.if-input-gt-TEXT.false _ _ _ c.read_run.ensures c.map_err.ensures.cases c.in_ok-size.was c.write_book.ensures
