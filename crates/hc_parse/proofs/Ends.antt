-- A source is read up to the end of its tokens.
use Rattle.std.proofs.Common.{◌≡◌, ◌<◌, ◌≤◌, ℕ, zero, suc, ◌-◌, List, [], ◌∷◌, length, take, Some, None, refl, subst, arith, ◌⊎◌, inl, inr, true}
use Rattle.hc_tree.specs.declared.item.Tree.{Tree}
use Rattle.hc_tree.specs.declared.item.Item.{Item}
use Rattle.hc_lex.specs.declared.token.Placed.{Placed}
use Rattle.hc_grammar.specs.declared.kind.Kind.{Kind}
use Rattle.hc_grammar.specs.Table.{form, Values, Rule, Reads, by, ReadsRow, part, done, IsStop, IsLongest, front}
use Rattle.hc_grammar.specs.Form as f
use Rattle.hc_grammar.specs.Form.{Form, Gives}
use Rattle.hc_grammar.specs.Item.{items_rule, program_rule}
use Rattle.hc_grammar.specs.Grammar.{grammar, rule}
use Rattle.hc_grammar.specs.LastEmpty.{may_be_empty, knows_empty}
use Rattle.hc_grammar.specs.LastTable.{reads-empty}

-- a row of no form, of one, and of two
no_parts : {ts rest : List Placed} {vs : Unit {0}} → ReadsRow grammar [] ts vs rest → rest ≡ ts
no_parts done = refl

one_part : {x : Form} {ts rest : List Placed} {vs : Values {K = Kind} Gives (form x ∷ [])} → ReadsRow grammar (form x ∷ []) ts vs rest
    → (v : Gives x) × Reads grammar x ts v rest
one_part (part mid a done) = (_, a)

two_parts : {x y : Form} {ts rest : List Placed} {vs : Values {K = Kind} Gives (form x ∷ form y ∷ [])} → ReadsRow grammar (form x ∷ form y ∷ []) ts vs rest
    → (v : Gives x) × (w : Gives y) × (mid : List Placed) × Reads grammar x ts v mid × Reads grammar y mid w rest
two_parts (part mid a (part end b done)) = (_, _, mid, a, b)

-- ---- the end of a source

abbrev pub ReadsWhere : Type 0
ReadsWhere = (x : Form) (v : Gives x) (ts rest : List Placed) → Reads grammar x ts v rest
    → IsStop grammar x ts (length ts - length rest) × IsLongest grammar x ts v (length ts - length rest)

either_way : (a b : ℕ) → (a ≤ b) ⊎ (b < a)
either_way a b = grind arith

nothing_taken : (k : ℕ) (ts : List Placed) → k ≡ 0 → take k ts ≡ []
nothing_taken k ts is = rw is refl

takes_some : ReadsWhere → (v : Item) (ts mid : List Placed) → Reads grammar f.item ts v mid → (length ts ≤ length mid) ⊎ (length mid < length ts) → length mid < length ts
takes_some read v ts mid a (inr less) = less
takes_some read v ts mid a (inl few) =
    let longest = (read f.item v ts mid a).1 in
    let none = nothing_taken (length ts - length mid) ts (omega (arith, few)) in
    let may : may_be_empty f.item ≡ true = reads-empty grammar may_be_empty knows_empty longest.spells none in
    absurd cc

-- an item takes tokens
pub item_takes : ReadsWhere → (v : Item) (ts mid : List Placed) → Reads grammar f.item ts v mid → length mid < length ts
item_takes read v ts mid a = takes_some read v ts mid a (either_way (length ts) (length mid))

-- the items of a source end with its tokens
by_front_item : (t : Placed) (tail : List Placed) (r : Rule Kind Gives f.items) → rule f.items (front (t ∷ tail)) ≡ Some r
    → (vs : Values Gives r.row) (rest : List Placed) → ReadsRow grammar r.row (t ∷ tail) vs rest
    → (v : Item) × (w : List Item) × (mid : List Placed) × Reads grammar f.item (t ∷ tail) v mid × Reads grammar f.items mid w rest
unfolding rule items_rule
by_front_item t tail r is =
    let same : record { row = form f.item ∷ form f.items ∷ []; gives = λ (x, (more, _)). x ∷ more } ≡ r = cc in
    subst (λ (q : Rule Kind Gives f.items). (vs : Values Gives q.row) (rest : List Placed) → ReadsRow grammar q.row (t ∷ tail) vs rest
    → (v : Item) × (w : List Item) × (mid : List Placed) × Reads grammar f.item (t ∷ tail) v mid × Reads grammar f.items mid w rest)
    same (λ vs rest row. two_parts row)

at_end : (r : Rule Kind Gives f.items) → rule f.items None ≡ Some r → (vs : Values Gives r.row) (rest : List Placed) → ReadsRow grammar r.row [] vs rest → rest ≡ []
unfolding rule items_rule
at_end r is =
    let same : record { row = []; gives = λ _. [] } ≡ r = cc in
    subst (λ (q : Rule Kind Gives f.items). (vs : Values Gives q.row) (rest : List Placed) → ReadsRow grammar q.row [] vs rest → rest ≡ [])
    same (λ vs rest row. no_parts row)

items_end : ReadsWhere → (n : ℕ) (ts rest : List Placed) (v : List Item) → length ts ≤ n → Reads grammar f.items ts v rest → rest ≡ []
items_end read n [] rest v few (by r vs is row same) = at_end r is vs rest row
items_end read zero (t ∷ tail) rest v few a = absurd (omega (arith, few))
items_end read (suc n) (t ∷ tail) rest v few (by r vs is row same) =
    let first = by_front_item t tail r is vs rest row in
    let less = item_takes read first.0 (t ∷ tail) first.2 first.3 in
    items_end read n first.2 rest first.1 (omega (arith, few, less)) first.4

-- a source is read up to the end
by_program : (ts : List Placed) (r : Rule Kind Gives f.program) → rule f.program (front ts) ≡ Some r
    → (vs : Values Gives r.row) (rest : List Placed) → ReadsRow grammar r.row ts vs rest → (v : List Item) × Reads grammar f.items ts v rest
unfolding rule program_rule
by_program ts r is =
    let same : record { row = form f.items ∷ []; gives = λ (items, _). record { items = items } } ≡ r = cc in
    subst (λ (q : Rule Kind Gives f.program). (vs : Values Gives q.row) (rest : List Placed) → ReadsRow grammar q.row ts vs rest
    → (v : List Item) × Reads grammar f.items ts v rest) same (λ vs rest row. one_part row)

pub program_ends : ReadsWhere → (ts rest : List Placed) (tree : Tree) → Reads grammar f.program ts tree rest → rest ≡ []
program_ends read ts rest tree (by r vs is row same) =
    let items = by_program ts r is vs rest row in items_end read (length ts) ts rest items.0 (omega arith) items.1
