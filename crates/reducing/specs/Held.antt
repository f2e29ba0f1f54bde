-- What a stretch holds of a problem, step by step.
use Rattle.std.specs.Prelude.{◌≡◌, ℕ, ◌+◌, ◌<◌, ◌≤◌, List, length, is_some, vec_items}
use Rattle.level.specs.declared.level.Level.{Ghosts}
use Rattle.multilinear.specs.Cells.{cell, packed}
use Rattle.multilinear.specs.Lent.{lent}
use Rattle.ring_switch.specs.Opening.{kept}
use Rattle.problem.specs.Task.{Task, asked, task_of}
use Rattle.problem.specs.declared.problem.Problem.{Problem}
use Rattle.reduction.specs.Layout.{most, table_start, layout_end}
use Rattle.reduction.specs.Stretch.{Stands, opening_in, rows_in}
use Rattle.reduction.specs.Worked.{Worked, Batched}
use Rattle.report_lines.specs.Batched.{Batching}
use Rattle.report_lines.specs.Report.{variables_of}
use Rattle.reducing.specs.declared.opened_problem.OpenedProblem.{OpenedProblem}

module _ {X : Type 0} (L : Ghosts X) where
  -- A stretch for points of up to c coordinates has the packed elements of a problem's table, which are as many as it has room for.
  pub record HoldsTable (problem : Problem X) (c : ℕ) (xs : List X) : Type 0 where
    pub room : layout_end L.log c ≤ length xs
    pub variables : c ≡ variables_of L.log (length (vec_items problem.bits)) + L.log
    pub few : c ≤ 24 + L.log
    pub elements : (w : ℕ) → w < most L.log c → lent L.means xs w ≡ packed L.log (cell (vec_items problem.bits)) w

  module _ (p : OpenedProblem X L) where
    abbrev pub task : Task L.log
    task = task_of L.means p.problem.now

    -- it has the problem's opening too
    pub record HoldsOpening (xs : List X) : Type 0 where
      pub table : HoldsTable p.problem.now p.layout.variables xs
      pub stands : Stands L p.layout.variables p.opened xs
      pub opening_is : opening_in L p.layout.variables p.opened xs ≡ asked task

    -- and the tensors
    pub record HoldsTensors (xs : List X) : Type 0 where
      pub opening : HoldsOpening xs
      pub worked : Worked L p.layout.variables p.opened xs

    -- and a batching, under the problem's challenge
    pub record HoldsBatching (xs : List X) : Type 0 where
      pub tensors : HoldsTensors xs
      pub challenged : is_some p.problem.now.challenge ≡ is_some (kept L.log p.opened.view)
      pub batched : Batched L p.layout.variables p.opened task.challenge xs

    -- which is the opening's, by the batching weights that it has
    abbrev pub batching_held : List X → Batching L.log
    batching_held xs = record { opening = asked task; rows = rows_in L (table_start L.log p.layout.variables) xs; challenge = task.challenge }
