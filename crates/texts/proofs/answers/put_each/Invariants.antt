use Rattle.std.proofs.Common.{◌≡◌, ℕ, List, ◌++◌, map, drop, vec_items}
use Rattle.greens.specs.declared.lights.Green.{Green}
use Rattle.greens.specs.Plans.{green_of}
use Rattle.texts.specs.Printed.{Puts}
use Rattle.texts.specs.Answers.{each_from}
use Rattle.texts.proofs.answers.put_each.Given as goal

abbrev pub invariant-loop-stream : goal.invariant-loop-stream
invariant-loop-stream g l =
    (piece : List ℕ → Green → List ℕ) → Puts (λ o. o.now.items) (goal.F-post g l.put_piece) piece →
    vec_items l.out ++ each_from piece (drop l.stream (map (λ x. x.now) l.names)) l.stream (green_of l.plan.greens)
    ≡ vec_items l.initial.out ++ each_from piece (map (λ x. x.now) l.names) 0 (green_of l.plan.greens)
