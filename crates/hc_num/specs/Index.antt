-- The width of an index of an array, RAM or ROM (the Handel-C manual, "Arrays"; for a length below 2 this project's own).
use Rattle.std.specs.Prelude.{ℕ, zero, suc, ◌+◌, ◌^◌, Bool, nat_le, if◌then◌else◌}

-- the first number from `start` on that passes the test, or start + tries where the first `tries` of them fail
abbrev pub first_from : (ℕ → Bool) → ℕ → ℕ → ℕ
first_from test start zero = start
first_from test start (suc tries) = if test start then start else first_from test (start + 1) tries

-- the least w of 1 or more with 2^w ≥ n, which is at most n + 1
unfoldable pub index_width : ℕ → ℕ
index_width n = first_from (λ w. nat_le n (2 ^ w)) 1 n
