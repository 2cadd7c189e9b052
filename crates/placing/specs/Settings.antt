-- A setting as the task that it states. Assumes nothing: these are definitions.
use Rattle.std.specs.Prelude.{ℕ, ◌+◌, ◌-◌, ◌*◌, nat_lt, slice_index}
use Rattle.placing.specs.declared.settings.Setting.{Setting}
use Rattle.placing.specs.Starts.{Task}
use Rattle.placing.specs.Sizes.{most_greens}

-- the number in row a, column b of a setting's table
abbrev pub entry_of : Setting → ℕ → ℕ → ℕ
entry_of s a b = slice_index s.table (a * most_greens + b)

-- the task: two cross where the table has a number, which is one more than the seconds to clear
abbrev pub task_of : Setting → Task
task_of s = record {
  count = s.count;
  cycle = s.cycle.seconds;
  long = λ k. slice_index s.long k;
  crosses = λ a b. nat_lt 0 (entry_of s a b);
  clear = λ a b. entry_of s a b - 1;
  lowest = λ k. slice_index s.lowest k;
  highest = λ k. slice_index s.highest k;
}
