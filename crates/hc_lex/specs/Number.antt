-- The value of a number, by its spelling.
use Rattle.std.specs.Prelude.{ℕ, ◌+◌, ◌-◌, ◌*◌, ◌^◌, Bool, ◌&&◌, ◌||◌, ◌==◌, nat_le, nat_lt, if◌then◌else◌, List, length, drop, slice_index, Option, Some, None, fold}
use Rattle.std.specs.Char.{is_ascii_digit}
use Rattle.std.specs.List.{list_all}

-- the value of a digit, letters counted from 10, or 16 for a byte that is no digit
abbrev pub digit : ℕ → ℕ
digit b =
    if is_ascii_digit b then b - 48
    else (if nat_le 97 b && nat_le b 102 then b - 97 + 10
    else (if nat_le 65 b && nat_le b 70 then b - 65 + 10 else 16))

abbrev pub is_digit_of : ℕ → ℕ → Bool
is_digit_of base b = nat_lt (digit b) base

abbrev pub value_of : ℕ → List ℕ → ℕ
value_of base run = fold (λ n b. n * base + digit b) 0 run

-- the value of digits of a base, where there is one, all are digits of it and the value is below 2^128
unfoldable pub numeral : ℕ → List ℕ → Option ℕ
numeral base run =
    if nat_lt 0 (length run) && list_all (is_digit_of base) run && nat_lt (value_of base run) (2 ^ 128) then Some (value_of base run) else None

-- `0x` stands before hexadecimal digits, `0b` before binary ones and `0` before octal ones; others are decimal
unfoldable pub number : List ℕ → Option ℕ
number run =
    let second = slice_index run 1 in
    if slice_index run 0 == 48 then
    (if second == 120 || second == 88 then numeral 16 (drop 2 run)
    else (if second == 98 || second == 66 then numeral 2 (drop 2 run) else numeral 8 run))
    else numeral 10 run
