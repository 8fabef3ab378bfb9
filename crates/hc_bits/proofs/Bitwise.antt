-- The operators on each bit by itself, as lists of bits and as numbers.
use Rattle.std.proofs.Common.{◌≡◌, ◌<◌, ℕ, ◌+◌, ◌-◌, ◌*◌, ◌^◌, List, [], ◌∷◌, ◌++◌, length, map, Bool, true, false, ◌&&◌, ◌||◌, refl, ap, sym, ◌∙◌, arith, Result}
use Rattle.std.specs.Prelude.{bit_and, bit_or, bit_xor, if◌then◌else◌, IfOk}
use Rattle.std.proofs.lemmas.List.{length-map}
use Rattle.std.proofs.lemmas.List.Elements.{All-append}
use Rattle.std.proofs.Math.Nat.{pow-suc}
use Rattle.std.proofs.lemmas.Nat.{and_block, or_block, xor_block}
use Rattle.hc_num.specs.Bits.{complement}
use Rattle.hc_net.specs.Bits.{number}
use Rattle.hc_net.specs.Circuit.{Circuit}
use Rattle.hc_net.specs.Gate.{differ, gate_bit}
use Rattle.hc_net.specs.Made.{Over, Makes}
use Rattle.hc_net.specs.MadeLemmas.{Over-self, Makes-holds}
use Rattle.hc_net.specs.declared.gate.GateKind.{GateKind}
use Rattle.hc_net.specs.declared.gate.GateKind.TheVariants as kind
use Rattle.hc_net.specs.declared.nets.NoMemory.{NoMemory}
use Rattle.hc_bits.specs.Held.{held}
use Rattle.hc_bits.specs.Carry.{each}
use Rattle.hc_bits.proofs.Carries.{turned}
use Rattle.hc_bits.proofs.Parts.{IfOk-both, Makes-wider}

abbrev pub digit : Bool → ℕ
digit b = if b then 1 else 0

-- an operator on numbers that takes each bit by itself
pub record Bitwise (op : ℕ → ℕ → ℕ) (f : Bool → Bool → Bool) : Type 0 where
  pub none : op 0 0 ≡ 0
  pub one : (a b : Bool) → op (digit a) (digit b) ≡ digit (f a b)
  pub block : (a b r s : ℕ) → r < 2 ^ 1 → s < 2 ^ 1 → op (a * 2 ^ 1 + r) (b * 2 ^ 1 + s) ≡ op a b * 2 ^ 1 + op r s

digit_small : (b : Bool) → digit b < 2 ^ 1
digit_small true = omega arith
digit_small false = omega arith

pub number-each : (op : ℕ → ℕ → ℕ) (f : Bool → Bool → Bool) → Bitwise op f → (xs ys : List Bool) → length ys ≡ length xs
    → number (each f xs ys) ≡ op (number xs) (number ys)
number-each op f w [] [] same = sym w.none
number-each op f w [] (y ∷ ys) same = absurd (omega (arith, same))
number-each op f w (x ∷ xs) [] same = absurd (omega (arith, same))
number-each op f w (x ∷ xs) (y ∷ ys) same =
    let ih = number-each op f w xs ys (omega (arith, same)) in
    let block = w.block (number xs) (number ys) (digit x) (digit y) (digit_small x) (digit_small y) in
    let left : digit x + 2 * number xs ≡ number xs * 2 ^ 1 + digit x = omega arith in
    let right : digit y + 2 * number ys ≡ number ys * 2 ^ 1 + digit y = omega arith in
    let whole : digit (f x y) + 2 * number (each f xs ys) ≡ op (number xs) (number ys) * 2 ^ 1 + op (digit x) (digit y) = rw (w.one x y, ih) (omega arith) in
    whole ∙ sym block ∙ sym (ap (λ n. op n (number ys * 2 ^ 1 + digit y)) left) ∙ sym (ap (λ n. op (digit x + 2 * number xs) n) right)

pub and_bitwise : Bitwise bit_and (gate_bit kind.And)
and_bitwise = record { none = refl; one = λ a b. one a b; block = λ a b r s. and_block 1 a b r s }
  where
    one : (a b : Bool) → bit_and (digit a) (digit b) ≡ digit (a && b)
    one true true = refl
    one true false = refl
    one false true = refl
    one false false = refl

pub or_bitwise : Bitwise bit_or (gate_bit kind.Or)
or_bitwise = record { none = refl; one = λ a b. one a b; block = λ a b r s. or_block 1 a b r s }
  where
    one : (a b : Bool) → bit_or (digit a) (digit b) ≡ digit (a || b)
    one true true = refl
    one true false = refl
    one false true = refl
    one false false = refl

pub xor_bitwise : Bitwise bit_xor (gate_bit kind.Xor)
xor_bitwise = record { none = refl; one = λ a b. one a b; block = λ a b r s. xor_block 1 a b r s }
  where
    one : (a b : Bool) → bit_xor (digit a) (digit b) ≡ digit (differ a b)
    one true true = refl
    one true false = refl
    one false true = refl
    one false false = refl

-- the number that the nets of gates of one kind hold
held_bitwise : (op : ℕ → ℕ → ℕ) (f : Bool → Bool → Bool) → Bitwise op f → (v : ℕ → Bool) (s : Bool) (xs ys zs : List ℕ) → length ys ≡ length xs → length zs ≡ length xs
    → map v zs ≡ each f (map v xs) (map v ys)
    → held s v zs ≡ record (held s v xs) { bits = op (number (map v xs)) (number (map v ys)) }
held_bitwise op f w v s xs ys zs same width is =
    let value : number (map v zs) ≡ op (number (map v xs)) (number (map v ys)) =
    ap number is ∙ number-each op f w (map v xs) (map v ys) (length-map ys v ∙ same ∙ sym (length-map xs v)) in
    cc

pub bitwise_held : (op : ℕ → ℕ → ℕ) (g : GateKind) → Bitwise op (gate_bit g) → (xs ys : List ℕ) (old new : Circuit) (result : Result (List ℕ) NoMemory) → length ys ≡ length xs
    → IfOk result (λ z. length z ≡ length xs)
    → IfOk result (λ z. Makes (length xs) (xs ++ ys) old new z (λ v. map v z ≡ each (gate_bit g) (map v xs) (map v ys)))
    → IfOk result (λ z. Makes (length xs) (xs ++ ys) old new z (λ v. (s : Bool) → held s v z ≡ record (held s v xs) { bits = op (number (map v xs)) (number (map v ys)) }))
bitwise_held op g w xs ys old new result same =
    IfOk-both result _ _ _ (λ z width made. Makes-holds made (omega arith) (λ v is s. held_bitwise op (gate_bit g) w v s xs ys z same width is))

-- ---- each bit turned

number-turned : (xs : List Bool) → number (turned xs) + number xs + 1 ≡ 2 ^ length xs
number-turned [] = refl
number-turned (true ∷ xs) = let ih = number-turned xs in let twice = pow-suc 2 (length xs) in omega (arith, ih, twice)
number-turned (false ∷ xs) = let ih = number-turned xs in let twice = pow-suc 2 (length xs) in omega (arith, ih, twice)

held_turned : (v : ℕ → Bool) (s : Bool) (xs zs : List ℕ) → length zs ≡ length xs → map v zs ≡ turned (map v xs) → held s v zs ≡ complement (held s v xs)
held_turned v s xs zs width is =
    let sum : number (turned (map v xs)) + number (map v xs) + 1 ≡ 2 ^ length xs = number-turned (map v xs) ∙ ap (λ n. 2 ^ n) (length-map xs v) in
    let value : number (map v zs) ≡ 2 ^ length xs - 1 - number (map v xs) = ap number is ∙ omega (arith, sum) in
    cc

pub turned_held : (xs : List ℕ) (old new : Circuit) (result : Result (List ℕ) NoMemory)
    → IfOk result (λ z. length z ≡ length xs)
    → IfOk result (λ z. Makes (length xs) (xs ++ xs) old new z (λ v. map v z ≡ turned (map v xs)))
    → IfOk result (λ z. Makes (length xs) xs old new z (λ v. (s : Bool) → held s v z ≡ complement (held s v xs)))
turned_held xs old new result =
    IfOk-both result _ _ _ (λ z width made. Makes-holds (Makes-wider made (All-append (Over new.nodes xs) xs xs (Over-self xs) (Over-self xs))) (omega arith) (λ v is s. held_turned v s xs z width is))
