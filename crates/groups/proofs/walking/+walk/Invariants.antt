use Rattle.std.proofs.Common.{◌-◌}
use Rattle.groups.proofs.walking.+walk.Given as goal

-- how many streams are left
abbrev pub decreases-walk : goal.decreases-walk
decreases-walk g l = l.crowd.now.junction.now.count - l.next
