use Rattle.std.proofs.Common.{Result, subst}
use Rattle.crossing.specs.declared.junctions.Junction.{Junction}
use Rattle.crossing.specs.declared.refusals.Refusal.{Refusal}
use Rattle.texts.specs.Numbers.{Answered}
use Rattle.texts.specs.Sections.{told_of}
use Rattle.wetorunge.proofs.answering.put_section.Goals as goal

pub returns-in_ok-put_taken-in-Ok : goal.returns-in_ok-put_taken-in-Ok
returns-in_ok-put_taken-in-Ok c = (
  c.in-Ok.junction,
  subst (λ (r : Result Junction Refusal). Answered (told_of c.args.section.now) r) c.in-Ok.is c.in_ok-refusal.ensures,
  c.in_ok-put_taken-in-Ok.ensures,
)
