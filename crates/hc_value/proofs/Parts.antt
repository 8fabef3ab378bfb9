-- What the code finds in each arm: an expression of a core that is of some form, what its parts want, and its circuit from theirs.
use Rattle.std.proofs.Common.{◌≡◌, ◌<◌, ◌≤◌, ℕ, ◌+◌, ◌-◌, ◌*◌, ◌^◌, List, ◌++◌, length, take, drop, map, Bool, false, Some, None, Option, if◌then◌else◌, ap, sym, ◌∙◌, subst, arith}
use Rattle.std.specs.Prelude.{All, slice_get, IfOk, Result, Ok, Err}
use Rattle.hc_num.specs.Number.{Number}
use Rattle.hc_num.specs.Index.{index_width}
use Rattle.hc_core.specs.Program.{Expression, Constant, Register, Element, Word, Signal, Input, Unary, Binary, Slice, Choice}
use Rattle.hc_core.specs.Read.{expression}
use Rattle.hc_core.specs.Typed.{HasSomeType, group_of, group_sign, width_of, sign_of, kind_width, kind_sign}
use Rattle.hc_core.specs.Weight.{kind_length, is_constant, unary_weight, binary_weight, element_weight, expression_weight}
use Rattle.hc_core.specs.declared.expr.UnOp.{UnOp}
use Rattle.hc_core.specs.declared.expr.BinOp.{BinOp}
use Rattle.hc_core.specs.declared.expr.Expr.{Expr}
use Rattle.hc_core.specs.declared.expr.Expr.TheVariants as e
use Rattle.hc_core.specs.declared.object.Kind.{Kind}
use Rattle.hc_core.proofs.Read.{read_Const, read_Reg, read_Signal, read_Input, read_Element, read_Word, read_Unary, read_Binary, read_Slice, read_Choice}
use Rattle.hc_meaning.specs.Value.{holds}
use Rattle.hc_net.specs.Bits.{number}
use Rattle.hc_net.specs.Circuit.{Circuit}
use Rattle.hc_net.specs.Made.{Adds, Makes}
use Rattle.hc_net.specs.MadeLemmas.{Adds-none, Adds-then, Adds-there, Adds-room, Adds-longer, all_there}
use Rattle.hc_bits.specs.Held.{held}
use Rattle.hc_value.specs.Elements.{element_gates, fixed_nets}
use Rattle.hc_value.specs.Moves.{amount, constant_nets, move_of, moved_nets}
use Rattle.hc_value.specs.Objects.{nets_of, AreNets, HasConstants}
use Rattle.hc_value.specs.Operands.{Fits, MakesUnary, MakesBinary, CanValue, IsValue}
use Rattle.hc_bits.specs.Elements.{element_nets}
use Rattle.hc_value.specs.Reads.{HasNets}
use Rattle.hc_value.specs.declared.moved.Move.{Move}
use Rattle.hc_value.specs.declared.objects.ObjectNets.{ObjectNets}
use Rattle.hc_value.specs.declared.operand.Operand.{Operand}
use Rattle.hc_value.proofs.Typing.{index_typed, operand_typed, left_typed, right_typed, sliced_typed, sliced_order, sliced_within, choice_typed, element_typed, fits_typed, width_some, same_weight, varies}
use Rattle.hc_value.proofs.Values.{register_value, signal_value, input_value, word_value, constant_value, fixed_value, element_value, unary_value, binary_value, moved_value, slice_value, choice_value, element_bound}

-- ---- among more nets

more_constants : (at : ObjectNets) (m n : ℕ) → m ≤ n → HasConstants m at → HasConstants n at
more_constants at m n le h = record { zero = let z = h.zero in omega arith; one = let o = h.one in omega arith }

more_nets : (m n many : ℕ) (nets : List ℕ) → m ≤ n → AreNets m many nets → AreNets n many nets
more_nets m n many nets le h = record { count = h.count; there = all_there nets le h.there }

more_read : (kinds : List Kind) (at : ObjectNets) (m n : ℕ) → m ≤ n → (x : Expression) → HasNets kinds at m x → HasNets kinds at n x
more_read kinds at m n le (Constant c) h = tt
more_read kinds at m n le (Register k) h = more_nets m n _ (nets_of at k) le h
more_read kinds at m n le (Element k i) h = (more_nets m n _ (nets_of at k) le h.0, more_read kinds at m n le i h.1)
more_read kinds at m n le (Word k i) h = more_nets m n _ (nets_of at k) le h
more_read kinds at m n le (Signal k) h = more_nets m n _ (nets_of at k) le h
more_read kinds at m n le (Input k) h = more_nets m n _ (nets_of at k) le h
more_read kinds at m n le (Unary op a) h = more_read kinds at m n le a h
more_read kinds at m n le (Binary op a b) h = (more_read kinds at m n le a h.0, more_read kinds at m n le b h.1)
more_read kinds at m n le (Slice a high low) h = more_read kinds at m n le a h
more_read kinds at m n le (Choice c a b) h = (more_read kinds at m n le c h.0, (more_read kinds at m n le a h.1.0, more_read kinds at m n le b h.1.1))

-- ---- what the parts want

-- an expression that another is read as
as_read : (kinds : List Kind) (at : ObjectNets) (c : Circuit) (x : Expr) (y : Expression) → expression x ≡ y → CanValue kinds at c (expression x) → CanValue kinds at c y
as_read kinds at c x y is can = subst (λ z. CanValue kinds at c z) is can

-- a part, by what was added before it
part_can : (kinds : List Kind) (at : ObjectNets) (old mid : Circuit) (whole part : Expression) (before : ℕ) → CanValue kinds at old whole → HasSomeType kinds part → HasNets kinds at (length old.nodes) part
    → Adds before old mid → before + expression_weight kinds part ≤ expression_weight kinds whole → CanValue kinds at mid part
part_can kinds at old mid whole part before can typed nets adds le =
    let longer = Adds-longer adds in
    let grown = Adds-room adds in
    let room = can.room in
    record {
      sound = can.sound;
      typed = typed;
      constants = more_constants at (length old.nodes) (length mid.nodes) longer can.constants;
      nets = more_read kinds at (length old.nodes) (length mid.nodes) longer part nets;
      room = omega arith;
    }

pub index_can : (kinds : List Kind) (at : ObjectNets) (c : Circuit) (x : Expr) (k : ℕ) (i : Expr) → x ≡ e.Element k i → CanValue kinds at c (expression x) → CanValue kinds at c (expression i)
index_can kinds at c x k i is can =
    let all = as_read kinds at c x _ (ap expression is ∙ read_Element k i) can in
    part_can kinds at c c (Element k (expression i)) (expression i) 0 all (index_typed kinds k (expression i) all.typed) all.nets.1 (Adds-none c) (omega arith)

pub operand_can : (kinds : List Kind) (at : ObjectNets) (c : Circuit) (x : Expr) (op : UnOp) (a : Expr) → x ≡ e.Unary op a → CanValue kinds at c (expression x) → CanValue kinds at c (expression a)
operand_can kinds at c x op a is can =
    let all = as_read kinds at c x _ (ap expression is ∙ read_Unary op a) can in
    part_can kinds at c c (Unary op (expression a)) (expression a) 0 all (operand_typed kinds op (expression a) all.typed) all.nets (Adds-none c) (omega arith)

pub left_can : (kinds : List Kind) (at : ObjectNets) (c : Circuit) (x : Expr) (op : BinOp) (a b : Expr) → x ≡ e.Binary op a b → CanValue kinds at c (expression x) → CanValue kinds at c (expression a)
left_can kinds at c x op a b is can =
    let all = as_read kinds at c x _ (ap expression is ∙ read_Binary op a b) can in
    part_can kinds at c c (Binary op (expression a) (expression b)) (expression a) 0 all (left_typed kinds op (expression a) (expression b) all.typed) all.nets.0 (Adds-none c) (omega arith)

pub right_can : (kinds : List Kind) (at : ObjectNets) (old mid : Circuit) (x : Expr) (op : BinOp) (a b : Expr) → x ≡ e.Binary op a b → CanValue kinds at old (expression x)
    → Adds (expression_weight kinds (expression a)) old mid → CanValue kinds at mid (expression b)
right_can kinds at old mid x op a b is can adds =
    let all = as_read kinds at old x _ (ap expression is ∙ read_Binary op a b) can in
    part_can kinds at old mid (Binary op (expression a) (expression b)) (expression b) _ all (right_typed kinds op (expression a) (expression b) all.typed) all.nets.1 adds (omega arith)

pub sliced_can : (kinds : List Kind) (at : ObjectNets) (c : Circuit) (x a : Expr) (high low : ℕ) → x ≡ e.Slice a high low → CanValue kinds at c (expression x) → CanValue kinds at c (expression a)
sliced_can kinds at c x a high low is can =
    let all = as_read kinds at c x _ (ap expression is ∙ read_Slice a high low) can in
    part_can kinds at c c (Slice (expression a) high low) (expression a) 0 all (sliced_typed kinds (expression a) high low all.typed) all.nets (Adds-none c) (omega arith)

pub condition_can : (kinds : List Kind) (at : ObjectNets) (old : Circuit) (x c a b : Expr) → x ≡ e.Choice c a b → CanValue kinds at old (expression x) → CanValue kinds at old (expression c)
condition_can kinds at old x c a b is can =
    let all = as_read kinds at old x _ (ap expression is ∙ read_Choice c a b) can in
    part_can kinds at old old (Choice (expression c) (expression a) (expression b)) (expression c) 0 all (choice_typed kinds (expression c) (expression a) (expression b) all.typed).condition all.nets.0
    (Adds-none old) (omega arith)

pub first_can : (kinds : List Kind) (at : ObjectNets) (old mid : Circuit) (x c a b : Expr) → x ≡ e.Choice c a b → CanValue kinds at old (expression x)
    → Adds (expression_weight kinds (expression c)) old mid → CanValue kinds at mid (expression a)
first_can kinds at old mid x c a b is can adds =
    let all = as_read kinds at old x _ (ap expression is ∙ read_Choice c a b) can in
    part_can kinds at old mid (Choice (expression c) (expression a) (expression b)) (expression a) _ all (choice_typed kinds (expression c) (expression a) (expression b) all.typed).first all.nets.1.0
    adds (omega arith)

pub second_can : (kinds : List Kind) (at : ObjectNets) (old mid last : Circuit) (x c a b : Expr) → x ≡ e.Choice c a b → CanValue kinds at old (expression x)
    → Adds (expression_weight kinds (expression c)) old mid → Adds (expression_weight kinds (expression a)) mid last → CanValue kinds at last (expression b)
second_can kinds at old mid last x c a b is can before more =
    let all = as_read kinds at old x _ (ap expression is ∙ read_Choice c a b) can in
    part_can kinds at old last (Choice (expression c) (expression a) (expression b)) (expression b) _ all (choice_typed kinds (expression c) (expression a) (expression b) all.typed).second all.nets.1.1
    (Adds-then before more) (omega arith)

-- ---- what the circuits want of their operands

-- an operand that stands for an expression: it has bits, and its nets are there
pub value_some : (kinds : List Kind) (at : ObjectNets) (c old new : Circuit) (y : Expression) (x : Operand) → CanValue kinds at c y → IsValue kinds at y old new x → 1 ≤ length x.nets
value_some kinds at c old new y x can is = let h = width_some kinds y can.sound can.typed in let w = is.width in omega arith

pub unary_room : (kinds : List Kind) (at : ObjectNets) (old mid : Circuit) (x : Expr) (op : UnOp) (a : Expr) (p : Operand) → x ≡ e.Unary op a → CanValue kinds at old (expression x)
    → IsValue kinds at (expression a) old mid p → length mid.nodes + unary_weight op (length p.nets) < 2 ^ 32
unary_room kinds at old mid x op a p is can first =
    let all = as_read kinds at old x _ (ap expression is ∙ read_Unary op a) can in
    let grown = Adds-room first.made.adds in
    let own : unary_weight op (length p.nets) ≡ unary_weight op (width_of kinds (expression a)) = ap (unary_weight op) first.width in
    let room = all.room in
    omega arith

-- what a circuit of two operands wants
pub record Ready (op : BinOp) (c : Circuit) (p q : Operand) : Type 0 where
  pub left : All (λ k. k < length c.nodes) p.nets
  pub right : All (λ k. k < length c.nodes) q.nets
  pub some_left : 1 ≤ length p.nets
  pub some_right : 1 ≤ length q.nets
  pub fits : Fits (group_of op) p q
  pub room : length c.nodes + binary_weight op false (length p.nets) (length q.nets) < 2 ^ 32

pub binary_ready : (kinds : List Kind) (at : ObjectNets) (old mid last : Circuit) (x : Expr) (op : BinOp) (a b : Expr) (p q : Operand) → x ≡ e.Binary op a b → CanValue kinds at old (expression x)
    → move_of op (expression b) ≡ None → IsValue kinds at (expression a) old mid p → IsValue kinds at (expression b) mid last q → Ready op last p q
binary_ready kinds at old mid last x op a b p q is can none first second =
    let all = as_read kinds at old x _ (ap expression is ∙ read_Binary op a b) can in
    let left = left_typed kinds op (expression a) (expression b) all.typed in
    let right = right_typed kinds op (expression a) (expression b) all.typed in
    let grown = Adds-room first.made.adds in
    let more = Adds-room second.made.adds in
    let own : binary_weight op false (length p.nets) (length q.nets) ≡ binary_weight op (is_constant (expression b)) (width_of kinds (expression a)) (width_of kinds (expression b)) =
    ap (λ w. binary_weight op false w (length q.nets)) first.width ∙ ap (λ w. binary_weight op false (width_of kinds (expression a)) w) second.width
    ∙ sym (same_weight op (expression b) (width_of kinds (expression a)) (width_of kinds (expression b)) none) in
    let room = all.room in
    let h = width_some kinds (expression a) all.sound left in
    let j = width_some kinds (expression b) all.sound right in
    let pw = first.width in
    let qw = second.width in
    record {
      left = Adds-there p.nets second.made.adds first.made.there;
      right = second.made.there;
      some_left = omega arith;
      some_right = omega arith;
      fits = fits_typed kinds op (expression a) (expression b) p q all.typed none first.width second.width first.signed second.signed;
      room = omega arith;
    }

-- what the circuit of an element wants
pub record ReadyElement (kinds : List Kind) (at : ObjectNets) (c : Circuit) (k : ℕ) (p : Operand) : Type 0 where
  pub nets : All (λ j. j < length c.nodes) (nets_of at k)
  pub some_elements : 1 ≤ kind_length (slice_get kinds k)
  pub some_index : 1 ≤ length p.nets
  pub numbers : kind_length (slice_get kinds k) ≤ 2 ^ length p.nets
  pub room : length c.nodes + element_gates (kind_length (slice_get kinds k)) (kind_width (slice_get kinds k)) (length p.nets) < 2 ^ 32

pub element_count : (kinds : List Kind) (at : ObjectNets) (c : Circuit) (x : Expr) (k : ℕ) (i : Expr) → x ≡ e.Element k i → CanValue kinds at c (expression x)
    → length (nets_of at k) ≡ kind_length (slice_get kinds k) * kind_width (slice_get kinds k)
element_count kinds at c x k i is can = let all = as_read kinds at c x _ (ap expression is ∙ read_Element k i) can in all.nets.0.count

pub element_ready : (kinds : List Kind) (at : ObjectNets) (old mid : Circuit) (x : Expr) (k : ℕ) (i : Expr) (p : Operand) → x ≡ e.Element k i → CanValue kinds at old (expression x)
    → amount (expression i) ≡ None → IsValue kinds at (expression i) old mid p → ReadyElement kinds at mid k p
element_ready kinds at old mid x k i p is can none index =
    let all = as_read kinds at old x _ (ap expression is ∙ read_Element k i) can in
    let types = element_typed kinds k (expression i) all.sound all.typed in
    let n = kind_length (slice_get kinds k) in
    let w = kind_width (slice_get kinds k) in
    let grown = Adds-room index.made.adds in
    let a : length p.nets ≡ index_width n = index.width ∙ types.index_is in
    let own : element_gates n w (length p.nets) ≡ element_gates n w (index_width n) = ap (λ j. element_gates n w j) a in
    let most = element_bound n (index_width n) w in
    let weight : element_weight (is_constant (expression i)) n w ≡ element_weight false n w = ap (λ c. element_weight c n w) (varies (expression i) none) in
    let room = all.room in
    let h = width_some kinds (expression i) all.sound types.index in
    let pw = index.width in
    record {
      nets = Adds-there (nets_of at k) index.made.adds all.nets.0.there;
      some_elements = types.some;
      some_index = omega arith;
      numbers = subst (λ (j : ℕ). n ≤ 2 ^ j) (sym index.width) types.covers;
      room = omega arith;
    }

-- what a cut wants
pub cut_order : (kinds : List Kind) (at : ObjectNets) (c : Circuit) (x a : Expr) (high low : ℕ) → x ≡ e.Slice a high low → CanValue kinds at c (expression x) → low ≤ high
cut_order kinds at c x a high low is can =
    let all = as_read kinds at c x _ (ap expression is ∙ read_Slice a high low) can in sliced_order kinds (expression a) high low all.typed

pub cut_within : (kinds : List Kind) (at : ObjectNets) (old new : Circuit) (x a : Expr) (high low : ℕ) (p : Operand) → x ≡ e.Slice a high low → CanValue kinds at old (expression x)
    → IsValue kinds at (expression a) old new p → high < length p.nets
cut_within kinds at old new x a high low p is can first =
    let all = as_read kinds at old x _ (ap expression is ∙ read_Slice a high low) can in
    let h = sliced_within kinds (expression a) high low all.typed in
    let w = first.width in
    omega arith

-- what a choice wants
pub record ReadyChoice (c : Circuit) (p x y : Operand) : Type 0 where
  pub condition : All (λ k. k < length c.nodes) p.nets
  pub left : All (λ k. k < length c.nodes) x.nets
  pub right : All (λ k. k < length c.nodes) y.nets
  pub some : 1 ≤ length p.nets
  pub width : length y.nets ≡ length x.nets
  pub room : length c.nodes + (length p.nets + (3 * length x.nets + 1)) < 2 ^ 32

pub choice_ready : (kinds : List Kind) (at : ObjectNets) (old mid last near : Circuit) (x c a b : Expr) (p q r : Operand) → x ≡ e.Choice c a b → CanValue kinds at old (expression x)
    → IsValue kinds at (expression c) old mid p → IsValue kinds at (expression a) mid last q → IsValue kinds at (expression b) last near r → ReadyChoice near p q r
choice_ready kinds at old mid last near x c a b p q r is can condition first second =
    let all = as_read kinds at old x _ (ap expression is ∙ read_Choice c a b) can in
    let types = choice_typed kinds (expression c) (expression a) (expression b) all.typed in
    let h = width_some kinds (expression c) all.sound types.condition in
    let g1 = Adds-room condition.made.adds in
    let g2 = Adds-room first.made.adds in
    let g3 = Adds-room second.made.adds in
    let pw = condition.width in
    let qw = first.width in
    let room = all.room in
    record {
      condition = Adds-there p.nets second.made.adds (Adds-there p.nets first.made.adds condition.made.there);
      left = Adds-there q.nets second.made.adds first.made.there;
      right = second.made.there;
      some = omega arith;
      width = second.width ∙ types.width ∙ sym first.width;
      room = omega arith;
    }

-- ---- the circuit of each form

read_as : (kinds : List Kind) (at : ObjectNets) (old new : Circuit) (x : Expr) (y : Expression) (z : Operand) → expression x ≡ y → IsValue kinds at y old new z → IsValue kinds at (expression x) old new z
read_as kinds at old new x y z is made = subst (λ d. IsValue kinds at d old new z) (sym is) made

pub valued_Const : (kinds : List Kind) (at : ObjectNets) (c : Circuit) (x : Expr) (n : Number) (z : Operand) → x ≡ e.Const n → CanValue kinds at c (expression x)
    → z.nets ≡ constant_nets at.zero at.one n → z.signed ≡ n.signed → IsValue kinds at (expression x) c c z
valued_Const kinds at c x n z is can nets signed =
    let form = ap expression is ∙ read_Const n in
    let all = as_read kinds at c x _ form can in
    read_as kinds at c c x _ z form (constant_value kinds at c n z all.typed all.constants nets signed)

pub valued_Reg : (kinds : List Kind) (at : ObjectNets) (c : Circuit) (x : Expr) (k : ℕ) (z : Operand) → x ≡ e.Reg k → CanValue kinds at c (expression x)
    → z.nets ≡ nets_of at k → z.signed ≡ kind_sign (slice_get kinds k) → IsValue kinds at (expression x) c c z
valued_Reg kinds at c x k z is can nets signed =
    let form = ap expression is ∙ read_Reg k in
    let all = as_read kinds at c x _ form can in
    read_as kinds at c c x _ z form (register_value kinds at c k z all.nets nets signed)

pub valued_Signal : (kinds : List Kind) (at : ObjectNets) (c : Circuit) (x : Expr) (k : ℕ) (z : Operand) → x ≡ e.Signal k → CanValue kinds at c (expression x)
    → z.nets ≡ nets_of at k → z.signed ≡ kind_sign (slice_get kinds k) → IsValue kinds at (expression x) c c z
valued_Signal kinds at c x k z is can nets signed =
    let form = ap expression is ∙ read_Signal k in
    let all = as_read kinds at c x _ form can in
    read_as kinds at c c x _ z form (signal_value kinds at c k z all.nets nets signed)

pub valued_Input : (kinds : List Kind) (at : ObjectNets) (c : Circuit) (x : Expr) (k : ℕ) (z : Operand) → x ≡ e.Input k → CanValue kinds at c (expression x)
    → z.nets ≡ nets_of at k → z.signed ≡ kind_sign (slice_get kinds k) → IsValue kinds at (expression x) c c z
valued_Input kinds at c x k z is can nets signed =
    let form = ap expression is ∙ read_Input k in
    let all = as_read kinds at c x _ form can in
    read_as kinds at c c x _ z form (input_value kinds at c k z all.nets nets signed)

pub valued_Word : (kinds : List Kind) (at : ObjectNets) (c : Circuit) (x : Expr) (k : ℕ) (i : Expr) (z : Operand) → x ≡ e.Word k i → CanValue kinds at c (expression x)
    → z.nets ≡ nets_of at k → z.signed ≡ kind_sign (slice_get kinds k) → IsValue kinds at (expression x) c c z
valued_Word kinds at c x k i z is can nets signed =
    let form = ap expression is ∙ read_Word k i in
    let all = as_read kinds at c x _ form can in
    read_as kinds at c c x _ z form (word_value kinds at c k (expression i) z all.nets nets signed)

pub valued_fixed : (kinds : List Kind) (at : ObjectNets) (c : Circuit) (x : Expr) (k n : ℕ) (i : Expr) (z : Operand) → x ≡ e.Element k i → CanValue kinds at c (expression x) → amount (expression i) ≡ Some n
    → z.nets ≡ fixed_nets at.zero (kind_length (slice_get kinds k)) (kind_width (slice_get kinds k)) (nets_of at k) n → z.signed ≡ kind_sign (slice_get kinds k) → IsValue kinds at (expression x) c c z
valued_fixed kinds at c x k n i z is can fixed nets signed =
    let form = ap expression is ∙ read_Element k i in
    let all = as_read kinds at c x _ form can in
    read_as kinds at c c x _ z form (fixed_value kinds at c k n (expression i) z all.nets all.constants fixed nets signed)

pub valued_Element : (kinds : List Kind) (at : ObjectNets) (old mid new : Circuit) (x : Expr) (k : ℕ) (i : Expr) (p z : Operand) → x ≡ e.Element k i → CanValue kinds at old (expression x)
    → amount (expression i) ≡ None → IsValue kinds at (expression i) old mid p → length z.nets ≡ kind_width (slice_get kinds k) → z.signed ≡ kind_sign (slice_get kinds k)
    → Makes (element_gates (kind_length (slice_get kinds k)) (kind_width (slice_get kinds k)) (length p.nets)) (nets_of at k ++ p.nets) mid new z.nets
    (λ v. number (map v z.nets) ≡ number (map v (element_nets (kind_width (slice_get kinds k)) (nets_of at k) (number (map v p.nets)))))
    → IsValue kinds at (expression x) old new z
valued_Element kinds at old mid new x k i p z is can none index width signed made =
    let form = ap expression is ∙ read_Element k i in
    let all = as_read kinds at old x _ form can in
    read_as kinds at old new x _ z form (element_value kinds at old mid new k (expression i) p z all.sound all.typed none index width signed made)

pub valued_Unary : (kinds : List Kind) (at : ObjectNets) (old mid new : Circuit) (x : Expr) (op : UnOp) (a : Expr) (p z : Operand) → x ≡ e.Unary op a
    → IsValue kinds at (expression a) old mid p → MakesUnary op p mid new z → IsValue kinds at (expression x) old new z
valued_Unary kinds at old mid new x op a p z is first made =
    read_as kinds at old new x _ z (ap expression is ∙ read_Unary op a) (unary_value kinds at old mid new op (expression a) p z first made)

pub valued_Binary : (kinds : List Kind) (at : ObjectNets) (old mid last new : Circuit) (x : Expr) (op : BinOp) (a b : Expr) (p q z : Operand) → x ≡ e.Binary op a b
    → move_of op (expression b) ≡ None → IsValue kinds at (expression a) old mid p → IsValue kinds at (expression b) mid last q → z.signed ≡ group_sign (group_of op) p.signed
    → MakesBinary op p q last new z.nets → IsValue kinds at (expression x) old new z
valued_Binary kinds at old mid last new x op a b p q z is none first second signed made =
    read_as kinds at old new x _ z (ap expression is ∙ read_Binary op a b) (binary_value kinds at old mid last new op (expression a) (expression b) p q z first second none signed made)

pub valued_moved : (kinds : List Kind) (at : ObjectNets) (old new : Circuit) (x : Expr) (op : BinOp) (a b : Expr) (by : Move) (p z : Operand) → x ≡ e.Binary op a b → CanValue kinds at old (expression x)
    → move_of op (expression b) ≡ Some by → IsValue kinds at (expression a) old new p → z.nets ≡ moved_nets at.zero by p → z.signed ≡ p.signed → IsValue kinds at (expression x) old new z
valued_moved kinds at old new x op a b by p z is can moves first nets signed =
    let form = ap expression is ∙ read_Binary op a b in
    let all = as_read kinds at old x _ form can in
    read_as kinds at old new x _ z form (moved_value kinds at old new op (expression a) (expression b) by p z all.sound all.typed all.constants moves first nets signed)

pub valued_Slice : (kinds : List Kind) (at : ObjectNets) (old new : Circuit) (x a : Expr) (high low : ℕ) (p z : Operand) → x ≡ e.Slice a high low → CanValue kinds at old (expression x)
    → IsValue kinds at (expression a) old new p → z.nets ≡ take (high - low + 1) (drop low p.nets) → z.signed ≡ false → IsValue kinds at (expression x) old new z
valued_Slice kinds at old new x a high low p z is can first nets signed =
    let form = ap expression is ∙ read_Slice a high low in
    let all = as_read kinds at old x _ form can in
    read_as kinds at old new x _ z form (slice_value kinds at old new (expression a) high low p z all.typed first nets signed)

pub valued_Choice : (kinds : List Kind) (at : ObjectNets) (old mid last near new : Circuit) (x c a b : Expr) (p q r z : Operand) → x ≡ e.Choice c a b → CanValue kinds at old (expression x)
    → IsValue kinds at (expression c) old mid p → IsValue kinds at (expression a) mid last q → IsValue kinds at (expression b) last near r → length z.nets ≡ length q.nets → z.signed ≡ q.signed
    → Makes (length p.nets + (3 * length q.nets + 1)) (p.nets ++ (q.nets ++ r.nets)) near new z.nets
    (λ v. (s t : Bool) → held t v z.nets ≡ (if holds (held s v p.nets) then held t v q.nets else held t v r.nets))
    → IsValue kinds at (expression x) old new z
valued_Choice kinds at old mid last near new x c a b p q r z is can condition first second width signed made =
    let form = ap expression is ∙ read_Choice c a b in
    let all = as_read kinds at old x _ form can in
    read_as kinds at old new x _ z form
    (choice_value kinds at old mid last near new (expression c) (expression a) (expression b) p q r z all.typed condition first second width signed made)

-- what two clauses of one call give together, of which each is about its result
pub IfOk-three : {X Y : Type 0} (r : Result X Y) (P Q R S : X → Type 0) → ((x : X) → P x → Q x → R x → S x) → IfOk r P → IfOk r Q → IfOk r R → IfOk r S
IfOk-three (Ok x) P Q R S f p q s = f x p q s
IfOk-three (Err e) P Q R S f p q s = tt
