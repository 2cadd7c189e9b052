use Rattle.std.proofs.Common.{rules}
use Rattle.std.proofs.iter.runs.Sources.{ranges}
use Rattle.planning.proofs.laying.busiest.Goals as goal

pub returns : goal.returns
returns c = search (rules, ranges)
