-- The number of a passed node (this project's own).
use Rattle.std.specs.Prelude.{ℕ}
use Rattle.hc_graph.specs.declared.search.Mark.{Mark}
use Rattle.hc_graph.specs.declared.search.Mark.TheVariants.{New, Open, Passed}

-- the number of a passed node, and 0 of another
abbrev pub rank_of : Mark → ℕ
rank_of New = 0
rank_of Open = 0
rank_of (Passed r) = r
