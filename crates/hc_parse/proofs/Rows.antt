-- Worked rows: short lists of tokens with the nesting of each.
use Rattle.std.proofs.Common.{◌≡◌, ℕ, zero, suc, ◌+◌, true, false, List, [], ◌∷◌, length, Some, None, refl, map}
use Rattle.std.specs.List.{find}
use Rattle.std.specs.Prelude.{codes}
use Rattle.hc_lex.specs.declared.mark.Mark as mark
use Rattle.hc_lex.specs.declared.mark.Mark.TheVariants as m
use Rattle.hc_lex.specs.declared.token.Token.{Token}
use Rattle.hc_lex.specs.declared.token.Token.TheVariants as token
use Rattle.hc_lex.specs.declared.token.Placed.{Placed}
use Rattle.hc_parse.specs.LeftOut.{is_left_out, is_left_out_word, left_out}
use Rattle.hc_grammar.specs.Nesting.{nested, is_deep, word_role, is_step_word, step_words, is_type_word, type_words}

-- the nestings of these tokens
abbrev nestings : List Token → List ℕ
nestings ts = map (λ n. n.nesting) (nested (map (λ t. record { token = t; place = record { line = 1; column = 1 } }) ts))

abbrev word : List ℕ → Token
word bytes = token.Word bytes

abbrev a : Token
a = word (codes "a")

abbrev one : Token
one = token.Number 1

abbrev mk : mark.Mark → Token
mk k = token.Mark k

abbrev lp : Token
lp = mk m.ParenOpen

abbrev rp : Token
rp = mk m.ParenClose

abbrev lb : Token
lb = mk m.BracketOpen

abbrev rb : Token
rb = mk m.BracketClose

abbrev lc : Token
lc = mk m.BraceOpen

abbrev rc : Token
rc = mk m.BraceClose

abbrev semi : Token
semi = mk m.Semicolon

abbrev comma : Token
comma = mk m.Comma

abbrev plus : Token
plus = mk m.Plus

abbrev assign : Token
assign = mk m.Assign

abbrev question : Token
question = mk m.Question

abbrev colon : Token
colon = mk m.Colon

abbrev dot : Token
dot = mk m.Dot

abbrev increment : Token
increment = mk m.Increment

abbrev do_word : Token
do_word = word (codes "do")

abbrev while_word : Token
while_word = word (codes "while")

abbrev if_word : Token
if_word = word (codes "if")

abbrev else_word : Token
else_word = word (codes "else")

abbrev par_word : Token
par_word = word (codes "par")

abbrev unsigned_word : Token
unsigned_word = word (codes "unsigned")

-- A comma starts the count of its level again.
-- ( ( a + a ) , a ) ;
-- 1 2 2 3 3 1 1 1 0 0
pub brackets : nestings (lp ∷ lp ∷ a ∷ plus ∷ a ∷ rp ∷ comma ∷ a ∷ rp ∷ semi ∷ [])
    ≡ 1 ∷ 2 ∷ 2 ∷ 3 ∷ 3 ∷ 1 ∷ 1 ∷ 1 ∷ 0 ∷ 0 ∷ []
unfolding word_role is_step_word step_words is_type_word type_words
brackets = refl

-- So does a semicolon, and a step token is counted from itself on.
-- a = a ; a = a , a
-- 0 1 1 0 0 1 1 0 0
pub counts : nestings (a ∷ assign ∷ a ∷ semi ∷ a ∷ assign ∷ a ∷ comma ∷ a ∷ [])
    ≡ 0 ∷ 1 ∷ 1 ∷ 0 ∷ 0 ∷ 1 ∷ 1 ∷ 0 ∷ 0 ∷ []
unfolding word_role is_step_word step_words is_type_word type_words
counts = refl

-- A colon is no step token.
-- a ? a : a , a ? a : a
-- 0 1 1 1 1 0 0 1 1 1 1
pub choices : nestings (a ∷ question ∷ a ∷ colon ∷ a ∷ comma ∷ a ∷ question ∷ a ∷ colon ∷ a ∷ [])
    ≡ 0 ∷ 1 ∷ 1 ∷ 1 ∷ 1 ∷ 0 ∷ 0 ∷ 1 ∷ 1 ∷ 1 ∷ 1 ∷ []
unfolding word_role is_step_word step_words is_type_word type_words
choices = refl

-- Neither are a dot and `++`.
-- a ++ ; a . a
-- 0 0 0 0 0 0
pub no_steps : nestings (a ∷ increment ∷ semi ∷ a ∷ dot ∷ a ∷ [])
    ≡ 0 ∷ 0 ∷ 0 ∷ 0 ∷ 0 ∷ 0 ∷ []
unfolding word_role is_step_word step_words is_type_word type_words
no_steps = refl

-- Closing brackets that close nothing change nothing, also a `}`.
-- ) ] } a = } ;
-- 0 0 0 0 1 1 0
pub strays : nestings (rp ∷ rb ∷ rc ∷ a ∷ assign ∷ rc ∷ semi ∷ [])
    ≡ 0 ∷ 0 ∷ 0 ∷ 0 ∷ 1 ∷ 1 ∷ 0 ∷ []
unfolding word_role is_step_word step_words is_type_word type_words
strays = refl

-- A closing bracket closes what is open within.
-- { ( [ } ) ]
-- 1 2 3 0 0 0
pub crossed : nestings (lc ∷ lp ∷ lb ∷ rc ∷ rp ∷ rb ∷ [])
    ≡ 1 ∷ 2 ∷ 3 ∷ 0 ∷ 0 ∷ 0 ∷ []
unfolding word_role is_step_word step_words is_type_word type_words
crossed = refl

-- Also where it stands deeper.
-- ( { a + ) ;
-- 1 2 2 3 0 0
pub crossed_back : nestings (lp ∷ lc ∷ a ∷ plus ∷ rp ∷ semi ∷ [])
    ≡ 1 ∷ 2 ∷ 2 ∷ 3 ∷ 0 ∷ 0 ∷ []
unfolding word_role is_step_word step_words is_type_word type_words
crossed_back = refl

-- A `do` is counted from itself on, up to its `while`.
-- do a ; while ( a ) ; while
-- 1 1 1 0 1 1 0 0 1
pub do_loop : nestings (do_word ∷ a ∷ semi ∷ while_word ∷ lp ∷ a ∷ rp ∷ semi ∷ while_word ∷ [])
    ≡ 1 ∷ 1 ∷ 1 ∷ 0 ∷ 1 ∷ 1 ∷ 0 ∷ 0 ∷ 1 ∷ []
unfolding word_role is_step_word step_words is_type_word type_words
do_loop = refl

-- A `while` that is the body of a `do` closes nothing.
-- do while ( a ) a ; while ( a ) ;
-- 1 2 3 3 2 2 1 0 1 1 0 0
pub do_while : nestings (do_word ∷ while_word ∷ lp ∷ a ∷ rp ∷ a ∷ semi ∷ while_word ∷ lp ∷ a ∷ rp ∷ semi ∷ [])
    ≡ 1 ∷ 2 ∷ 3 ∷ 3 ∷ 2 ∷ 2 ∷ 1 ∷ 0 ∷ 1 ∷ 1 ∷ 0 ∷ 0 ∷ []
unfolding word_role is_step_word step_words is_type_word type_words
do_while = refl

-- A `do` within a block of another.
-- do { do ; while ( a ) ; } while ( a ) ;
-- 1 2 3 3 2 3 3 2 2 1 0 1 1 0 0
pub do_in_do : nestings (do_word ∷ lc ∷ do_word ∷ semi ∷ while_word ∷ lp ∷ a ∷ rp ∷ semi ∷ rc ∷ while_word ∷ lp ∷ a ∷ rp ∷ semi ∷ [])
    ≡ 1 ∷ 2 ∷ 3 ∷ 3 ∷ 2 ∷ 3 ∷ 3 ∷ 2 ∷ 2 ∷ 1 ∷ 0 ∷ 1 ∷ 1 ∷ 0 ∷ 0 ∷ []
unfolding word_role is_step_word step_words is_type_word type_words
do_in_do = refl

-- A `do` directly within another.
-- do do a ; while ( a ) ; while ( a ) ;
-- 1 2 2 2 1 2 2 1 1 0 1 1 0 0
pub do_do : nestings (do_word ∷ do_word ∷ a ∷ semi ∷ while_word ∷ lp ∷ a ∷ rp ∷ semi ∷ while_word ∷ lp ∷ a ∷ rp ∷ semi ∷ [])
    ≡ 1 ∷ 2 ∷ 2 ∷ 2 ∷ 1 ∷ 2 ∷ 2 ∷ 1 ∷ 1 ∷ 0 ∷ 1 ∷ 1 ∷ 0 ∷ 0 ∷ []
unfolding word_role is_step_word step_words is_type_word type_words
do_do = refl

-- A `}` closes each `do` within its block.
-- { do a = a ; } while ( a )
-- 1 2 2 3 3 2 0 1 2 2 1
pub do_closed : nestings (lc ∷ do_word ∷ a ∷ assign ∷ a ∷ semi ∷ rc ∷ while_word ∷ lp ∷ a ∷ rp ∷ [])
    ≡ 1 ∷ 2 ∷ 2 ∷ 3 ∷ 3 ∷ 2 ∷ 0 ∷ 1 ∷ 2 ∷ 2 ∷ 1 ∷ []
unfolding word_role is_step_word step_words is_type_word type_words
do_closed = refl

-- A `while` behind a `}` at the level of a `do` closes it, whatever the `}` closed.
-- do a } while ( a )
-- 1 1 1 0 1 1 0
pub do_stray : nestings (do_word ∷ a ∷ rc ∷ while_word ∷ lp ∷ a ∷ rp ∷ [])
    ≡ 1 ∷ 1 ∷ 1 ∷ 0 ∷ 1 ∷ 1 ∷ 0 ∷ []
unfolding word_role is_step_word step_words is_type_word type_words
do_stray = refl

-- Before `else` a semicolon starts no count again.
-- if ( a ) a ; else if ( a ) a ; else a ; a
-- 1 2 2 1 1 1 1 2 3 3 2 2 2 2 2 0 0
pub chain : nestings (if_word ∷ lp ∷ a ∷ rp ∷ a ∷ semi ∷ else_word ∷ if_word ∷ lp ∷ a ∷ rp ∷ a ∷ semi ∷ else_word ∷ a ∷ semi ∷ a ∷ [])
    ≡ 1 ∷ 2 ∷ 2 ∷ 1 ∷ 1 ∷ 1 ∷ 1 ∷ 2 ∷ 3 ∷ 3 ∷ 2 ∷ 2 ∷ 2 ∷ 2 ∷ 2 ∷ 0 ∷ 0 ∷ []
unfolding word_role is_step_word step_words is_type_word type_words
chain = refl

-- Nor does a `}`, which counts at the level around its own.
-- if ( a ) { a = a ; } else { a ; } a
-- 1 2 2 1 2 2 3 3 2 1 1 2 2 2 0 0
pub blocks : nestings (if_word ∷ lp ∷ a ∷ rp ∷ lc ∷ a ∷ assign ∷ a ∷ semi ∷ rc ∷ else_word ∷ lc ∷ a ∷ semi ∷ rc ∷ a ∷ [])
    ≡ 1 ∷ 2 ∷ 2 ∷ 1 ∷ 2 ∷ 2 ∷ 3 ∷ 3 ∷ 2 ∷ 1 ∷ 1 ∷ 2 ∷ 2 ∷ 2 ∷ 0 ∷ 0 ∷ []
unfolding word_role is_step_word step_words is_type_word type_words
blocks = refl

-- A `}` before `else` at the level of a `do`.
-- do if ( a ) { } else { } while ( a )
-- 1 2 3 3 2 3 2 2 3 1 0 1 1 0
pub do_else : nestings (do_word ∷ if_word ∷ lp ∷ a ∷ rp ∷ lc ∷ rc ∷ else_word ∷ lc ∷ rc ∷ while_word ∷ lp ∷ a ∷ rp ∷ [])
    ≡ 1 ∷ 2 ∷ 3 ∷ 3 ∷ 2 ∷ 3 ∷ 2 ∷ 2 ∷ 3 ∷ 1 ∷ 0 ∷ 1 ∷ 1 ∷ 0 ∷ []
unfolding word_role is_step_word step_words is_type_word type_words
do_else = refl

-- The count of a block goes with it.
-- par { while ( 1 ) a ; }
-- 1 2 3 4 4 3 3 2 0
pub block_counts : nestings (par_word ∷ lc ∷ while_word ∷ lp ∷ one ∷ rp ∷ a ∷ semi ∷ rc ∷ [])
    ≡ 1 ∷ 2 ∷ 3 ∷ 4 ∷ 4 ∷ 3 ∷ 3 ∷ 2 ∷ 0 ∷ []
unfolding word_role is_step_word step_words is_type_word type_words
block_counts = refl

-- A `[` directly behind a `]` is a step token at the level around it.
-- a [ 1 ] [ 1 ] [ 1 ] a [ 1 ]
-- 0 1 1 0 2 2 1 3 3 2 2 3 3 2
pub indexes : nestings (a ∷ lb ∷ one ∷ rb ∷ lb ∷ one ∷ rb ∷ lb ∷ one ∷ rb ∷ a ∷ lb ∷ one ∷ rb ∷ [])
    ≡ 0 ∷ 1 ∷ 1 ∷ 0 ∷ 2 ∷ 2 ∷ 1 ∷ 3 ∷ 3 ∷ 2 ∷ 2 ∷ 3 ∷ 3 ∷ 2 ∷ []
unfolding word_role is_step_word step_words is_type_word type_words
indexes = refl

-- A `(` directly before a type is a step token at the level around it.
-- ( unsigned 1 ) ( a ) , ( unsigned
-- 2 2 2 1 2 2 1 0 2 2
pub casts : nestings (lp ∷ unsigned_word ∷ one ∷ rp ∷ lp ∷ a ∷ rp ∷ comma ∷ lp ∷ unsigned_word ∷ [])
    ≡ 2 ∷ 2 ∷ 2 ∷ 1 ∷ 2 ∷ 2 ∷ 1 ∷ 0 ∷ 2 ∷ 2 ∷ []
unfolding word_role is_step_word step_words is_type_word type_words
casts = refl

-- so many `(` one after another from a column on
abbrev opening : ℕ → ℕ → List Placed
opening zero column = []
opening (suc n) column = record { token = lp; place = record { line = 1; column = column } } ∷ opening n (column + 1)

-- 200 of them are not too deep, and the next is
pub not_deep : find is_deep (nested (opening 200 1)) ≡ None
not_deep = refl

pub deep : find is_deep (nested (opening 300 1)) ≡ Some (record { token = record { token = lp; place = record { line = 1; column = 201 } }; nesting = 201 })
deep = refl

-- ---- left-out words

pub words_left_out : length left_out ≡ 37
unfolding left_out
words_left_out = refl

pub left_out_word : is_left_out (word (codes "struct")) ≡ true
unfolding is_left_out_word left_out
left_out_word = refl

pub longer_word : is_left_out (word (codes "structs")) ≡ false
unfolding is_left_out_word left_out
longer_word = refl

pub left_out_text : is_left_out (token.Text (codes "struct")) ≡ false
left_out_text = refl
