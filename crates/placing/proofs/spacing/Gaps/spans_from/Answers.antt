use Rattle.std.proofs.Common.{◌<◌, arith, rules}
use Rattle.placing.specs.Crowds.{Span}
use Rattle.greens.proofs.Made.{made_of}
use Rattle.placing.proofs.spacing.Gaps.spans_from.Goals as goal

pub returns : goal.returns
returns c = record {
  each = λ ha b hb.
      made_of _ (λ k span. c.args.first < c.args.self.now.count → k < c.args.self.now.count → Span c.args.self.now c.args.bounds.now c.args.first k span) _ _
      (λ k span q called. search rules) _ c.from_fn.ensures.items b 0 (omega (arith, c.args.self.now.few)) ha hb;
}
