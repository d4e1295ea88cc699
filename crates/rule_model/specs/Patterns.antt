-- Public. The patterns that tables of rules and of rewrites are written in.
use Rattle.term_model.specs.declared.symbols.Op.{Op}
use Rattle.rule_model.specs.declared.letter.Letter.{Letter}
use Rattle.rule_model.specs.Schemas.{Pattern, letter, nullary, unary, binary, ternary}

abbrev pub a : Pattern
a = letter Letter.A

abbrev pub b : Pattern
b = letter Letter.B

abbrev pub c : Pattern
c = letter Letter.C

abbrev pub d : Pattern
d = letter Letter.D

abbrev pub yes : Pattern
yes = nullary Op.True

abbrev pub never : Pattern
never = nullary Op.False

abbrev pub no : Pattern → Pattern
no p = unary Op.Not p

abbrev pub conj : Pattern → Pattern → Pattern
conj p q = binary Op.And p q

abbrev pub disj : Pattern → Pattern → Pattern
disj p q = binary Op.Or p q

abbrev pub xor : Pattern → Pattern → Pattern
xor p q = binary Op.Xor p q

abbrev pub implies : Pattern → Pattern → Pattern
implies p q = binary Op.Implies p q

abbrev pub equal : Pattern → Pattern → Pattern
equal p q = binary Op.Equal p q

abbrev pub ite : Pattern → Pattern → Pattern → Pattern
ite p q r = ternary Op.Ite p q r

abbrev pub less_eq : Pattern → Pattern → Pattern
less_eq p q = binary Op.LessEq p q

abbrev pub less : Pattern → Pattern → Pattern
less p q = binary Op.Less p q

abbrev pub greater_eq : Pattern → Pattern → Pattern
greater_eq p q = binary Op.GreaterEq p q

abbrev pub greater : Pattern → Pattern → Pattern
greater p q = binary Op.Greater p q
