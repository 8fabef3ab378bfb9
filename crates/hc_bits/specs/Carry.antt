-- Carries over lists of bits, lowest bit first, as the field has them: a place generates a carry, or passes on the one that comes in.
use Rattle.std.specs.Prelude.{Bool, ◌&&◌, ◌||◌, List, [], ◌∷◌}
use Rattle.hc_net.specs.Gate.{differ}

-- one bit for each place, as far as both lists go
abbrev pub each : (Bool → Bool → Bool) → List Bool → List Bool → List Bool
each f [] ys = []
each f (x ∷ xs) [] = []
each f (x ∷ xs) (y ∷ ys) = f x y ∷ each f xs ys

-- the carry out of a place that generates one, or passes on the one that comes in
abbrev pub carry_out : Bool → Bool → Bool → Bool
carry_out g p c = g || (p && c)

-- the carry out of each place, where c comes in at the lowest; a place without an entry in the second list passes each on
abbrev pub carries : Bool → List Bool → List Bool → List Bool
carries c [] ps = []
carries c (g ∷ gs) [] = (g || c) ∷ carries (g || c) gs []
carries c (g ∷ gs) (p ∷ ps) = carry_out g p c ∷ carries (carry_out g p c) gs ps

-- the last bit, or c where there is none
abbrev pub last_of : Bool → List Bool → Bool
last_of c [] = c
last_of c (x ∷ xs) = last_of x xs

-- the digits of a sum or difference: each place's own bit, changed by the carry that comes in, which the lowest place hasn't
abbrev pub digits : List Bool → List Bool → List Bool
digits [] cs = []
digits (s ∷ ss) cs = s ∷ each differ ss cs

-- where each pair of neighbours generates a carry, without a place that is left over at the top
abbrev pub paired : List Bool → List Bool → List Bool
paired [] ps = []
paired (g ∷ []) ps = []
paired (g ∷ h ∷ gs) [] = (h || g) ∷ paired gs []
paired (g ∷ h ∷ gs) (p ∷ []) = (h || g) ∷ paired gs []
paired (g ∷ h ∷ gs) (p ∷ q ∷ ps) = carry_out h q g ∷ paired gs ps

-- where each pair of neighbours passes a carry on
abbrev pub both_pass : List Bool → List Bool
both_pass [] = []
both_pass (p ∷ []) = []
both_pass (p ∷ q ∷ ps) = (q && p) ∷ both_pass ps

-- the same where no carry comes in at the lowest pair, so that its entry is any bit: here the one of its higher place
abbrev pub upper_pass : List Bool → List Bool
upper_pass [] = []
upper_pass (p ∷ []) = []
upper_pass (p ∷ q ∷ ps) = q ∷ both_pass ps
