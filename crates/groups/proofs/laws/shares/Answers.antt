use Rattle.groups.proofs.Claims.{shares}
use Rattle.groups.proofs.laws.shares.Goals as goal

pub returns : goal.returns
returns c = λ j p long member is_good is_group each.
    shares j p long member
    (record { is_good = is_good; is_group = is_group; some = λ k h mk. (each k h mk).0 })
    (λ k h mk. (each k h mk).1)
