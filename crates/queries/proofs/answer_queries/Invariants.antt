-- `answer_queries` meets its contract. Invariant: each query before this row has a left that is done, and so has its reply.
-- Assumes nothing.
use Rattle.queries.proofs.QueryReplies.{Answering}
use Rattle.queries.proofs.answer_queries.Given as goal

abbrev pub invariant-loop-w : goal.invariant-loop-w
invariant-loop-w l = Answering l.settling.index.rows.now l.settling.levels.now l.k l.w-index l.done.words l.initial.results l.results
