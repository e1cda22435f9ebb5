-- What monitors show, and what becomes of it when they are told of steps.
use Rattle.std.specs.Prelude.{◌≡◌, ℕ, ◌+◌, ◌<◌, ◌^◌, List, map, sum}
use Rattle.std.specs.List.{All, AllZip}
use Rattle.run_replay.specs.declared.worlds.Step.{Step}

-- what a monitor is at one moment: its tally, its title, and what each step weighs
pub record MonitorData : Type 0 where
  pub counted : ℕ
  pub title : List ℕ
  pub weight : Step → ℕ

-- it was told of these steps, each once: the tally grew by the sum of their weights, each less than
-- 2^64; the title and the weights are as before
pub record IsTold (steps : List Step) (before after : MonitorData) : Type 0 where
  pub counts : after.counted ≡ before.counted + sum (map before.weight steps)
  pub light : All (λ step. before.weight step < 2 ^ 64) steps
  pub titled : after.title ≡ before.title
  pub weighs : (step : Step) → after.weight step ≡ before.weight step

-- each monitor of a list was told of these steps; the list has its monitors in their order
abbrev pub AreTold : List Step → List MonitorData → List MonitorData → Type 0
AreTold steps = AllZip (IsTold steps)
