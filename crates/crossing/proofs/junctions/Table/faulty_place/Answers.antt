use Rattle.std.proofs.Common.{rules, tests, ◌≡◌, ◌+◌, ◌*◌, Some, None}
use Rattle.std.specs.Option.{option_map}
use Rattle.crossing.specs.Numbers.{faulty_column}
use Rattle.crossing.proofs.Faults.{place_told}
use Rattle.crossing.proofs.Ranges.{find_map_of}
use Rattle.crossing.proofs.junctions.Table.faulty_place.Goals as goal

pub returns : goal.returns
returns c =
    let n = c.args.self.now.width in
    let table = c.args.self.now.numbers.now in
    place_told n table c.find_map.result
    (find_map_of n (λ a. None ≡ faulty_column n table a) (λ a place. Some place ≡ option_map (λ b. a * n + b) (faulty_column n table a))
    c.find_map.result c.find_map.ensures.runs (search rules) (λ x o q called. search rules) (λ x h called. search (rules, tests)) (λ x place h called. search (rules, tests)))
