-- Which calls fail by plan, in a store or a sink that tests use. The rules are this project's own.
use Rattle.std.specs.Prelude.{◌+◌, ℕ, Bool, List, [], ◌∷◌, ◌++◌, min, length, nat_eq, if◌then◌else◌}
use Rattle.std.specs.List.{list_any}
use Rattle.hc_outside.specs.Count.{last_count}

-- the numbers of the calls that are to fail, the number of the next call, and the most bytes that a call takes
pub record Plan : Type 0 where
  pub failing : List ℕ
  pub next : ℕ
  pub most : ℕ

-- one more, up to the last value of a count
abbrev pub one_more : ℕ → ℕ
one_more n = min (n + 1) last_count

-- the plan before any call
abbrev pub no_faults : ℕ → Plan
no_faults most = record { failing = []; next = 0; most = most }

-- the next call is to fail
abbrev pub fails_next : Plan → Bool
fails_next p = list_any (λ call. nat_eq call p.next) p.failing

-- the plan after a call
abbrev pub after_call : Plan → Plan
after_call p = record { failing = p.failing; next = one_more p.next; most = p.most }

-- the plan with one more call that is to fail
abbrev pub with_failing : ℕ → Plan → Plan
with_failing call p = record { failing = p.failing ++ call ∷ []; next = p.next; most = p.most }

-- the plan with another bound
abbrev pub with_most : ℕ → Plan → Plan
with_most most p = record { failing = p.failing; next = p.next; most = most }

-- no call is to fail
abbrev pub is_calm : Plan → Bool
is_calm p = nat_eq (length p.failing) 0

-- a count of faults after a call, which is one more where the call was to fail
abbrev pub faults_after : Plan → ℕ → ℕ
faults_after p faults = if fails_next p then one_more faults else faults
