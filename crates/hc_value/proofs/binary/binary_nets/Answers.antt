-- Each operator's circuit, over operands that fit its group and with room for its weight.
use Rattle.std.proofs.Common.{◌*◌, ◌+◌, ℕ, List, length, not, ap, refl, sym, ◌∙◌, ◌++◌, arith}
use Rattle.std.proofs.lemmas.Result.{IfOk-weaker}
use Rattle.hc_num.specs.Arithmetic.{sum, difference, product, quotient, remainder}
use Rattle.hc_num.specs.Bits.{conjunction, disjunction, exclusive_or}
use Rattle.hc_num.specs.Compare.{is_equal, is_less}
use Rattle.hc_core.specs.declared.expr.BinOp.TheVariants.{Add, Sub, Mul, Div, Rem, And, Or, Xor, Eq, Ne, Lt, Le, Gt, Ge, Shl, Shr, Both, Either}
use Rattle.hc_net.specs.MadeLemmas.{Makes-holds}
use Rattle.hc_bits.proofs.Parts.{IfOk-both}
use Rattle.hc_value.proofs.Operators.{fits_at, room_at, shift_room, alike_made, answer_made, turned_over, left_made, right_made, joined_made, both_operands, either_operand}
use Rattle.hc_value.proofs.binary.binary_nets.Goals as goal

-- ---- Add

pub add-requires-clause-width : goal.add-requires-clause-width
add-requires-clause-width c = (fits_at c.args.op Add c.args.x.now c.args.y.now c.in-Add.is c.requires.fits).width

pub add-requires-clause-room : goal.add-requires-clause-room
add-requires-clause-room c = room_at c.args.op Add (length c.args.b.now.nodes) (length c.args.x.now.nets) (length c.args.y.now.nets) c.in-Add.is c.requires.room

pub returns-in-Add : goal.returns-in-Add
returns-in-Add c =
    IfOk-both c.add.result _ _ _ (λ z width made.
    alike_made c.args.op Add sum (8 * length c.args.x.now.nets) c.args.b.now c.add.new.b c.args.x.now c.args.y.now z c.in-Add.is
    (fits_at c.args.op Add c.args.x.now c.args.y.now c.in-Add.is c.requires.fits) (λ a b. refl) (omega arith) (λ n. refl) refl width made) c.add.ensures.width c.add.ensures.circuit

-- ---- Sub

pub sub-requires-clause-width : goal.sub-requires-clause-width
sub-requires-clause-width c = (fits_at c.args.op Sub c.args.x.now c.args.y.now c.in-Sub.is c.requires.fits).width

pub sub-requires-clause-room : goal.sub-requires-clause-room
sub-requires-clause-room c = room_at c.args.op Sub (length c.args.b.now.nodes) (length c.args.x.now.nets) (length c.args.y.now.nets) c.in-Sub.is c.requires.room

pub returns-in-Sub : goal.returns-in-Sub
returns-in-Sub c =
    IfOk-both c.sub.result _ _ _ (λ z width made.
    alike_made c.args.op Sub difference (8 * length c.args.x.now.nets) c.args.b.now c.sub.new.b c.args.x.now c.args.y.now z c.in-Sub.is
    (fits_at c.args.op Sub c.args.x.now c.args.y.now c.in-Sub.is c.requires.fits) (λ a b. refl) (omega arith) (λ n. refl) refl width made) c.sub.ensures.width c.sub.ensures.circuit

-- ---- Mul

pub times-requires-clause-width : goal.times-requires-clause-width
times-requires-clause-width c = (fits_at c.args.op Mul c.args.x.now c.args.y.now c.in-Mul.is c.requires.fits).width

pub times-requires-clause-room : goal.times-requires-clause-room
times-requires-clause-room c = room_at c.args.op Mul (length c.args.b.now.nodes) (length c.args.x.now.nets) (length c.args.y.now.nets) c.in-Mul.is c.requires.room

pub returns-in-Mul : goal.returns-in-Mul
returns-in-Mul c =
    IfOk-both c.times.result _ _ _ (λ z width made.
    alike_made c.args.op Mul product (8 * (length c.args.x.now.nets * length c.args.x.now.nets)) c.args.b.now c.times.new.b c.args.x.now c.args.y.now z c.in-Mul.is
    (fits_at c.args.op Mul c.args.x.now c.args.y.now c.in-Mul.is c.requires.fits) (λ a b. refl) (omega arith) (λ n. refl) refl width made) c.times.ensures.width c.times.ensures.circuit

-- ---- Div

pub quotient-requires-clause-width : goal.quotient-requires-clause-width
quotient-requires-clause-width c = (fits_at c.args.op Div c.args.x.now c.args.y.now c.in-Div.is c.requires.fits).width

pub quotient-requires-clause-room : goal.quotient-requires-clause-room
quotient-requires-clause-room c = room_at c.args.op Div (length c.args.b.now.nodes) (length c.args.x.now.nets) (length c.args.y.now.nets) c.in-Div.is c.requires.room

pub returns-in-Div : goal.returns-in-Div
returns-in-Div c =
    IfOk-both c.quotient.result _ _ _ (λ z width made.
    alike_made c.args.op Div quotient (16 * (length c.args.x.now.nets * length c.args.x.now.nets) + 24 * length c.args.x.now.nets) c.args.b.now c.quotient.new.b c.args.x.now c.args.y.now z c.in-Div.is
    (fits_at c.args.op Div c.args.x.now c.args.y.now c.in-Div.is c.requires.fits) (λ a b. refl) (omega arith) (λ n. refl) refl width made) c.quotient.ensures.width c.quotient.ensures.circuit

-- ---- Rem

pub remainder-requires-clause-width : goal.remainder-requires-clause-width
remainder-requires-clause-width c = (fits_at c.args.op Rem c.args.x.now c.args.y.now c.in-Rem.is c.requires.fits).width

pub remainder-requires-clause-room : goal.remainder-requires-clause-room
remainder-requires-clause-room c = room_at c.args.op Rem (length c.args.b.now.nodes) (length c.args.x.now.nets) (length c.args.y.now.nets) c.in-Rem.is c.requires.room

pub returns-in-Rem : goal.returns-in-Rem
returns-in-Rem c =
    IfOk-both c.remainder.result _ _ _ (λ z width made.
    alike_made c.args.op Rem remainder (16 * (length c.args.x.now.nets * length c.args.x.now.nets) + 24 * length c.args.x.now.nets) c.args.b.now c.remainder.new.b c.args.x.now c.args.y.now z c.in-Rem.is
    (fits_at c.args.op Rem c.args.x.now c.args.y.now c.in-Rem.is c.requires.fits) (λ a b. refl) (omega arith) (λ n. refl) refl width made) c.remainder.ensures.width c.remainder.ensures.circuit

-- ---- And

pub band-requires-clause-width : goal.band-requires-clause-width
band-requires-clause-width c = (fits_at c.args.op And c.args.x.now c.args.y.now c.in-And.is c.requires.fits).width

pub band-requires-clause-room : goal.band-requires-clause-room
band-requires-clause-room c = room_at c.args.op And (length c.args.b.now.nodes) (length c.args.x.now.nets) (length c.args.y.now.nets) c.in-And.is c.requires.room

pub returns-in-And : goal.returns-in-And
returns-in-And c =
    IfOk-both c.band.result _ _ _ (λ z width made.
    alike_made c.args.op And conjunction (length c.args.x.now.nets) c.args.b.now c.band.new.b c.args.x.now c.args.y.now z c.in-And.is
    (fits_at c.args.op And c.args.x.now c.args.y.now c.in-And.is c.requires.fits) (λ a b. refl) (omega arith) (λ n. refl) refl width made) c.band.ensures.width c.band.ensures.circuit

-- ---- Or

pub bor-requires-clause-width : goal.bor-requires-clause-width
bor-requires-clause-width c = (fits_at c.args.op Or c.args.x.now c.args.y.now c.in-Or.is c.requires.fits).width

pub bor-requires-clause-room : goal.bor-requires-clause-room
bor-requires-clause-room c = room_at c.args.op Or (length c.args.b.now.nodes) (length c.args.x.now.nets) (length c.args.y.now.nets) c.in-Or.is c.requires.room

pub returns-in-Or : goal.returns-in-Or
returns-in-Or c =
    IfOk-both c.bor.result _ _ _ (λ z width made.
    alike_made c.args.op Or disjunction (length c.args.x.now.nets) c.args.b.now c.bor.new.b c.args.x.now c.args.y.now z c.in-Or.is
    (fits_at c.args.op Or c.args.x.now c.args.y.now c.in-Or.is c.requires.fits) (λ a b. refl) (omega arith) (λ n. refl) refl width made) c.bor.ensures.width c.bor.ensures.circuit

-- ---- Xor

pub bxor-requires-clause-width : goal.bxor-requires-clause-width
bxor-requires-clause-width c = (fits_at c.args.op Xor c.args.x.now c.args.y.now c.in-Xor.is c.requires.fits).width

pub bxor-requires-clause-room : goal.bxor-requires-clause-room
bxor-requires-clause-room c = room_at c.args.op Xor (length c.args.b.now.nodes) (length c.args.x.now.nets) (length c.args.y.now.nets) c.in-Xor.is c.requires.room

pub returns-in-Xor : goal.returns-in-Xor
returns-in-Xor c =
    IfOk-both c.bxor.result _ _ _ (λ z width made.
    alike_made c.args.op Xor exclusive_or (length c.args.x.now.nets) c.args.b.now c.bxor.new.b c.args.x.now c.args.y.now z c.in-Xor.is
    (fits_at c.args.op Xor c.args.x.now c.args.y.now c.in-Xor.is c.requires.fits) (λ a b. refl) (omega arith) (λ n. refl) refl width made) c.bxor.ensures.width c.bxor.ensures.circuit

-- ---- Eq

pub equal-requires-clause-width : goal.equal-requires-clause-width
equal-requires-clause-width c = (fits_at c.args.op Eq c.args.x.now c.args.y.now c.in-Eq.is c.requires.fits).width

pub equal-requires-clause-room : goal.equal-requires-clause-room
equal-requires-clause-room c =
    let room = room_at c.args.op Eq (length c.args.b.now.nodes) (length c.args.x.now.nets) (length c.args.y.now.nets) c.in-Eq.is c.requires.room in
    let same = (fits_at c.args.op Eq c.args.x.now c.args.y.now c.in-Eq.is c.requires.fits).width in
    omega arith

pub returns-in-Eq : goal.returns-in-Eq
returns-in-Eq c =
    let same = (fits_at c.args.op Eq c.args.x.now c.args.y.now c.in-Eq.is c.requires.fits).width in
    IfOk-both c.equal.result _ _ _ (λ z width made.
    answer_made c.args.op Eq (λ a b. is_equal a b) (3 * length c.args.x.now.nets) c.args.b.now c.equal.new.b c.args.x.now c.args.y.now z c.in-Eq.is
    (fits_at c.args.op Eq c.args.x.now c.args.y.now c.in-Eq.is c.requires.fits) (λ a b. refl) (omega arith) (λ n. refl) refl width
    (Makes-holds made (omega arith) (λ v h. h c.args.x.now.signed))) c.equal.ensures.width c.equal.ensures.circuit

-- ---- Ne

pub unequal-requires-clause-width : goal.unequal-requires-clause-width
unequal-requires-clause-width c = (fits_at c.args.op Ne c.args.x.now c.args.y.now c.in-Ne.is c.requires.fits).width

pub unequal-requires-clause-room : goal.unequal-requires-clause-room
unequal-requires-clause-room c =
    let room = room_at c.args.op Ne (length c.args.b.now.nodes) (length c.args.x.now.nets) (length c.args.y.now.nets) c.in-Ne.is c.requires.room in
    let same = (fits_at c.args.op Ne c.args.x.now c.args.y.now c.in-Ne.is c.requires.fits).width in
    omega arith

pub returns-in-Ne : goal.returns-in-Ne
returns-in-Ne c =
    let same = (fits_at c.args.op Ne c.args.x.now c.args.y.now c.in-Ne.is c.requires.fits).width in
    IfOk-both c.unequal.result _ _ _ (λ z width made.
    answer_made c.args.op Ne (λ a b. not (is_equal a b)) (3 * length c.args.x.now.nets + 1) c.args.b.now c.unequal.new.b c.args.x.now c.args.y.now z c.in-Ne.is
    (fits_at c.args.op Ne c.args.x.now c.args.y.now c.in-Ne.is c.requires.fits) (λ a b. refl) (omega arith) (λ n. refl) refl width
    (Makes-holds made (omega arith) (λ v h. h c.args.x.now.signed))) c.unequal.ensures.width c.unequal.ensures.circuit

-- ---- Lt

pub less-requires-clause-width : goal.less-requires-clause-width
less-requires-clause-width c = (fits_at c.args.op Lt c.args.x.now c.args.y.now c.in-Lt.is c.requires.fits).width

pub less-requires-clause-room : goal.less-requires-clause-room
less-requires-clause-room c =
    let room = room_at c.args.op Lt (length c.args.b.now.nodes) (length c.args.x.now.nets) (length c.args.y.now.nets) c.in-Lt.is c.requires.room in
    let same = (fits_at c.args.op Lt c.args.x.now c.args.y.now c.in-Lt.is c.requires.fits).width in
    omega arith

pub returns-in-Lt : goal.returns-in-Lt
returns-in-Lt c =
    let same = (fits_at c.args.op Lt c.args.x.now c.args.y.now c.in-Lt.is c.requires.fits).width in
    IfOk-both c.less.result _ _ _ (λ z width made.
    answer_made c.args.op Lt (λ a b. is_less a b) (6 * length c.args.x.now.nets) c.args.b.now c.less.new.b c.args.x.now c.args.y.now z c.in-Lt.is
    (fits_at c.args.op Lt c.args.x.now c.args.y.now c.in-Lt.is c.requires.fits) (λ a b. refl) (omega arith) (λ n. refl) refl width
    made) c.less.ensures.width c.less.ensures.circuit

-- ---- Le

pub at_least-requires-clause-width : goal.at_least-requires-clause-width
at_least-requires-clause-width c = sym (fits_at c.args.op Le c.args.x.now c.args.y.now c.in-Le.is c.requires.fits).width

pub at_least-requires-clause-room : goal.at_least-requires-clause-room
at_least-requires-clause-room c =
    let room = room_at c.args.op Le (length c.args.b.now.nodes) (length c.args.x.now.nets) (length c.args.y.now.nets) c.in-Le.is c.requires.room in
    let same = (fits_at c.args.op Le c.args.x.now c.args.y.now c.in-Le.is c.requires.fits).width in
    omega arith

pub returns-in-Le : goal.returns-in-Le
returns-in-Le c =
    let same = (fits_at c.args.op Le c.args.x.now c.args.y.now c.in-Le.is c.requires.fits).width in
    IfOk-both c.at_least.result _ _ _ (λ z width made.
    answer_made c.args.op Le (λ a b. not (is_less b a)) (6 * length c.args.y.now.nets + 1) c.args.b.now c.at_least.new.b c.args.x.now c.args.y.now z c.in-Le.is
    (fits_at c.args.op Le c.args.x.now c.args.y.now c.in-Le.is c.requires.fits) (λ a b. refl) (omega arith) (λ n. refl) refl width
    (turned_over c.args.x.now.nets c.args.y.now.nets made)) c.at_least.ensures.width c.at_least.ensures.circuit

-- ---- Gt

pub less-requires-in-Gt-clause-width : goal.less-requires-in-Gt-clause-width
less-requires-in-Gt-clause-width c = sym (fits_at c.args.op Gt c.args.x.now c.args.y.now c.in-Gt.is c.requires.fits).width

pub less-requires-in-Gt-clause-room : goal.less-requires-in-Gt-clause-room
less-requires-in-Gt-clause-room c =
    let room = room_at c.args.op Gt (length c.args.b.now.nodes) (length c.args.x.now.nets) (length c.args.y.now.nets) c.in-Gt.is c.requires.room in
    let same = (fits_at c.args.op Gt c.args.x.now c.args.y.now c.in-Gt.is c.requires.fits).width in
    omega arith

pub returns-in-Gt : goal.returns-in-Gt
returns-in-Gt c =
    let same = (fits_at c.args.op Gt c.args.x.now c.args.y.now c.in-Gt.is c.requires.fits).width in
    IfOk-both c.less-in-Gt.result _ _ _ (λ z width made.
    answer_made c.args.op Gt (λ a b. is_less b a) (6 * length c.args.y.now.nets) c.args.b.now c.less-in-Gt.new.b c.args.x.now c.args.y.now z c.in-Gt.is
    (fits_at c.args.op Gt c.args.x.now c.args.y.now c.in-Gt.is c.requires.fits) (λ a b. refl) (omega arith) (λ n. refl) refl width
    (turned_over c.args.x.now.nets c.args.y.now.nets made)) c.less-in-Gt.ensures.width c.less-in-Gt.ensures.circuit

-- ---- Ge

pub at_least-requires-in-Ge-clause-width : goal.at_least-requires-in-Ge-clause-width
at_least-requires-in-Ge-clause-width c = (fits_at c.args.op Ge c.args.x.now c.args.y.now c.in-Ge.is c.requires.fits).width

pub at_least-requires-in-Ge-clause-room : goal.at_least-requires-in-Ge-clause-room
at_least-requires-in-Ge-clause-room c =
    let room = room_at c.args.op Ge (length c.args.b.now.nodes) (length c.args.x.now.nets) (length c.args.y.now.nets) c.in-Ge.is c.requires.room in
    let same = (fits_at c.args.op Ge c.args.x.now c.args.y.now c.in-Ge.is c.requires.fits).width in
    omega arith

pub returns-in-Ge : goal.returns-in-Ge
returns-in-Ge c =
    let same = (fits_at c.args.op Ge c.args.x.now c.args.y.now c.in-Ge.is c.requires.fits).width in
    IfOk-both c.at_least-in-Ge.result _ _ _ (λ z width made.
    answer_made c.args.op Ge (λ a b. not (is_less a b)) (6 * length c.args.x.now.nets + 1) c.args.b.now c.at_least-in-Ge.new.b c.args.x.now c.args.y.now z c.in-Ge.is
    (fits_at c.args.op Ge c.args.x.now c.args.y.now c.in-Ge.is c.requires.fits) (λ a b. refl) (omega arith) (λ n. refl) refl width
    made) c.at_least-in-Ge.ensures.width c.at_least-in-Ge.ensures.circuit

-- ---- Shl

pub shift_left-requires-clause-room : goal.shift_left-requires-clause-room
shift_left-requires-clause-room c =
    let room = shift_room (length c.args.b.now.nodes) (length c.args.x.now.nets) (length c.args.y.now.nets) (room_at c.args.op Shl (length c.args.b.now.nodes) (length c.args.x.now.nets) (length c.args.y.now.nets) c.in-Shl.is c.requires.room) in
    omega arith

pub returns-in-Shl : goal.returns-in-Shl
returns-in-Shl c =
    IfOk-both c.shift_left.result _ _ _ (λ z width made.
    left_made c.args.op c.args.b.now c.shift_left.new.b c.args.x.now c.args.y.now z c.in-Shl.is width made) c.shift_left.ensures.width c.shift_left.ensures.circuit

-- ---- Shr

pub shift_right-requires-clause-room : goal.shift_right-requires-clause-room
shift_right-requires-clause-room c =
    let room = shift_room (length c.args.b.now.nodes) (length c.args.x.now.nets) (length c.args.y.now.nets) (room_at c.args.op Shr (length c.args.b.now.nodes) (length c.args.x.now.nets) (length c.args.y.now.nets) c.in-Shr.is c.requires.room) in
    omega arith

pub returns-in-Shr : goal.returns-in-Shr
returns-in-Shr c =
    IfOk-both c.shift_right.result _ _ _ (λ z width made.
    right_made c.args.op c.args.b.now c.shift_right.new.b c.args.x.now c.args.y.now z c.in-Shr.is width made) c.shift_right.ensures.width c.shift_right.ensures.circuit

-- ---- Concat

pub returns-in-Concat : goal.returns-in-Concat
returns-in-Concat c =
    IfOk-weaker c.joined_nets.result _ _ (λ z is.
    joined_made c.args.op c.args.b.now c.args.x.now c.args.y.now z c.in-Concat.is c.requires.left c.requires.right
    (is ∙ ap (λ (l : List ℕ). l ++ c.as_slice-in-Concat.result.now) c.as_slice.ensures ∙ ap (λ (l : List ℕ). c.args.y.now.nets ++ l) c.as_slice-in-Concat.ensures)) c.joined_nets.ensures

-- ---- Both

pub both-requires-clause-room : goal.both-requires-clause-room
both-requires-clause-room c =
    let room = room_at c.args.op Both (length c.args.b.now.nodes) (length c.args.x.now.nets) (length c.args.y.now.nets) c.in-Both.is c.requires.room in
    omega arith

pub returns-in-Both : goal.returns-in-Both
returns-in-Both c =
    IfOk-both c.both.result _ _ _ (λ z width made.
    both_operands c.args.op c.args.b.now c.both.new.b c.args.x.now c.args.y.now z c.in-Both.is width made) c.both.ensures.width c.both.ensures.circuit

-- ---- Either

pub either-requires-clause-room : goal.either-requires-clause-room
either-requires-clause-room c =
    let room = room_at c.args.op Either (length c.args.b.now.nodes) (length c.args.x.now.nets) (length c.args.y.now.nets) c.in-Either.is c.requires.room in
    omega arith

pub returns-in-Either : goal.returns-in-Either
returns-in-Either c =
    IfOk-both c.either.result _ _ _ (λ z width made.
    either_operand c.args.op c.args.b.now c.either.new.b c.args.x.now c.args.y.now z c.in-Either.is width made) c.either.ensures.width c.either.ensures.circuit
