use Rattle.std.proofs.Common.{map, vec_items}
use Rattle.std.specs.Option.{option_map}
use Rattle.std.proofs.lemmas.Result.{on_ok_weaker}
use Rattle.texts.specs.Sections.{told_of}
use Rattle.wetorunge.proofs.Lines.{planned_in}
use Rattle.wetorunge.proofs.answering.put_found.Goals as goal

pub returns : goal.returns
returns c =
    on_ok_weaker c.put_drawn.result
    (planned_in (told_of c.args.section.now) c.args.drawn c.args.junction.now c.args.found.plan c.args.found.spare (vec_items c.args.out.now)
    (vec_items c.put_answer.new.out) (vec_items c.put_drawn.new.out) (option_map (λ x. x.now) c.name.result) (map (λ x. x.now) c.names.result.now) (map (λ x. x.now) c.names-2.result.now)
    c.cycle.result c.name.ensures c.names.ensures c.names-2.ensures c.cycle.ensures c.requires.0 c.requires.1 c.in_ok-put_answer.ensures)
    c.put_drawn.ensures
