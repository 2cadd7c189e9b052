use Rattle.std.proofs.Common.{◌≡◌, ℕ, ◌++◌, length, drop, replicate, ◌∙◌, rules}
use Rattle.crossing.specs.Taken.{no_stream, stream_in}
use Rattle.greens.proofs.Made.{made_of}
use Rattle.crossing.proofs.Padded.{padded_stream}
use Rattle.crossing.proofs.reading.streams_in.Goals as goal

pub returns-clause-each : goal.returns-clause-each
returns-clause-each c = λ k within.
    made_of _ (λ place stream. stream ≡ stream_in (c.copy_from_slice.new.self ++ drop (length c.args.pairs.now) (replicate {A = ℕ} 24 0)) place) _ c.from_fn.result (λ place stream q called. search rules) 12 c.from_fn.ensures.items k no_stream within
    ∙ rw c.copy_from_slice.ensures.after (padded_stream c.args.pairs.now 24 k)
