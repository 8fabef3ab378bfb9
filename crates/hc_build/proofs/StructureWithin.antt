-- What an expression of built forms reads.
use Rattle.std.proofs.Common.{◌≡◌, ℕ, List, [], ◌++◌, Bool, true, ◌&&◌}
use Rattle.std.specs.Prelude.{All}
use Rattle.std.proofs.lemmas.List.Elements.{All-nil, All-append}
use Rattle.hc_core.specs.Program.{Expression}
use Rattle.hc_core.specs.Typed as typed
use Rattle.hc_core.specs.Typed.{Typed}
use Rattle.hc_core.specs.declared.object.Kind.{Kind}
use Rattle.hc_value.specs.Objects.{nets_of}
use Rattle.hc_value.specs.Reads.{read_nets}
use Rattle.hc_value.specs.declared.objects.ObjectNets.{ObjectNets}
use Rattle.hc_control.specs.Built.{is_built_expression}
use Rattle.hc_control.specs.Right.{AreAll}
use Rattle.hc_build.proofs.Program.{both_of}

pub reads_all : {P : ℕ → Type 0} {kinds : List Kind} {at : ObjectNets} → AreAll P kinds at → (e : Expression) (w : ℕ) (s : Bool) → Typed kinds e w s → is_built_expression e ≡ true → All P (read_nets at e)
reads_all {P} all _ _ _ (typed.constant n is) built = All-nil P
reads_all {P} all _ _ _ (typed.register k w s init is) built = all.register k w s init is
reads_all {P} all _ _ _ (typed.signal k w s unset is) built = absurd cc
reads_all {P} all _ _ _ (typed.input k w s pins is) built = all.input k w s pins is
reads_all {P} {at = at} all _ _ _ (typed.element k w n s init i is t) built = All-append P (nets_of at k) (read_nets at i) (all.array k w n s init is) (reads_all all i _ _ t built)
reads_all {P} all _ _ _ (typed.ram_word k w n s init i is t) built = absurd cc
reads_all {P} all _ _ _ (typed.rom_word k w n s init i is t) built = absurd cc
reads_all {P} all _ _ _ (typed.negative a w s t) built = reads_all all a _ _ t built
reads_all {P} all _ _ _ (typed.complement a w s t) built = reads_all all a _ _ t built
reads_all {P} all _ _ _ (typed.is_zero a w s t) built = reads_all all a _ _ t built
reads_all {P} all _ _ _ (typed.to_signed a w s t) built = reads_all all a _ _ t built
reads_all {P} all _ _ _ (typed.to_unsigned a w s t) built = reads_all all a _ _ t built
reads_all {P} {at = at} all _ _ _ (typed.arithmetic op a b w s is t u) built =
    let both = both_of (is_built_expression a) (is_built_expression b) built in
    All-append P (read_nets at a) (read_nets at b) (reads_all all a _ _ t both.0) (reads_all all b _ _ u both.1)
reads_all {P} {at = at} all _ _ _ (typed.division op a b w is t u) built =
    let both = both_of (is_built_expression a) (is_built_expression b) built in
    All-append P (read_nets at a) (read_nets at b) (reads_all all a _ _ t both.0) (reads_all all b _ _ u both.1)
reads_all {P} {at = at} all _ _ _ (typed.bitwise op a b w s is t u) built =
    let both = both_of (is_built_expression a) (is_built_expression b) built in
    All-append P (read_nets at a) (read_nets at b) (reads_all all a _ _ t both.0) (reads_all all b _ _ u both.1)
reads_all {P} {at = at} all _ _ _ (typed.comparison op a b w s is t u) built =
    let both = both_of (is_built_expression a) (is_built_expression b) built in
    All-append P (read_nets at a) (read_nets at b) (reads_all all a _ _ t both.0) (reads_all all b _ _ u both.1)
reads_all {P} {at = at} all _ _ _ (typed.shift op a b w v s is t u) built =
    let both = both_of (is_built_expression a) (is_built_expression b) built in
    All-append P (read_nets at a) (read_nets at b) (reads_all all a _ _ t both.0) (reads_all all b _ _ u both.1)
reads_all {P} {at = at} all _ _ _ (typed.joining op a b w v s r is t u most) built =
    let both = both_of (is_built_expression a) (is_built_expression b) built in
    All-append P (read_nets at a) (read_nets at b) (reads_all all a _ _ t both.0) (reads_all all b _ _ u both.1)
reads_all {P} {at = at} all _ _ _ (typed.taking op a n w s is t amount least most) built =
    let both = both_of (is_built_expression a) true built in
    All-append P (read_nets at a) [] (reads_all all a _ _ t both.0) (All-nil P)
reads_all {P} {at = at} all _ _ _ (typed.dropping op a n w s is t amount most) built =
    let both = both_of (is_built_expression a) true built in
    All-append P (read_nets at a) [] (reads_all all a _ _ t both.0) (All-nil P)
reads_all {P} {at = at} all _ _ _ (typed.logic op a b w v s r is t u) built =
    let both = both_of (is_built_expression a) (is_built_expression b) built in
    All-append P (read_nets at a) (read_nets at b) (reads_all all a _ _ t both.0) (reads_all all b _ _ u both.1)
reads_all {P} all _ _ _ (typed.slice a high low w s t least most) built = reads_all all a _ _ t built
reads_all {P} {at = at} all _ _ _ (typed.choice c a b v w r s t u x) built =
    let first = both_of (is_built_expression c) (is_built_expression a && is_built_expression b) built in
    let sides = both_of (is_built_expression a) (is_built_expression b) first.1 in
    All-append P (read_nets at c) (read_nets at a ++ read_nets at b) (reads_all all c _ _ t first.0)
    (All-append P (read_nets at a) (read_nets at b) (reads_all all a _ _ u sides.0) (reads_all all b _ _ x sides.1))
