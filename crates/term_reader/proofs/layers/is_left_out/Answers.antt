-- A name that is one of the longer words is among them.
use Rattle.std.proofs.Common.{rules, ◌≡◌, ◌∙◌, true, List, ℕ, refl, sym, ap, codes}
use Rattle.std.proofs.lemmas.Slice.Eq.{text_from_reads}
use Rattle.problem_text.specs.Words.{is_among, left_out_words}
use Rattle.term_reader.proofs.layers.is_left_out.Goals as goal

among : (name word : List ℕ) → is_among left_out_words word ≡ true → name ≡ word → true ≡ is_among left_out_words name
among name word listed same = sym (ap (is_among left_out_words) same ∙ listed)

pub returns-in-forall-6 : goal.returns-in-forall-6
returns-in-forall-6 c = among c.args.name.now (codes "forall") refl (search (rules, text_from_reads))

pub returns-in-forall-7 : goal.returns-in-forall-7
returns-in-forall-7 c = among c.args.name.now (codes "exists") refl (search (rules, text_from_reads))

pub returns-in-forall-8 : goal.returns-in-forall-8
returns-in-forall-8 c = among c.args.name.now (codes "choice") refl (search (rules, text_from_reads))

pub returns-in-forall-9 : goal.returns-in-forall-9
returns-in-forall-9 c = among c.args.name.now (codes "lambda") refl (search (rules, text_from_reads))

pub returns-in-forall-10 : goal.returns-in-forall-10
returns-in-forall-10 c = among c.args.name.now (codes "to_int") refl (search (rules, text_from_reads))

pub returns-in-forall-11 : goal.returns-in-forall-11
returns-in-forall-11 c = among c.args.name.now (codes "is_int") refl (search (rules, text_from_reads))

pub returns-in-forall-12 : goal.returns-in-forall-12
returns-in-forall-12 c = among c.args.name.now (codes "to_real") refl (search (rules, text_from_reads))

pub returns-in-forall-13 : goal.returns-in-forall-13
returns-in-forall-13 c = among c.args.name.now (codes "divisible") refl (search (rules, text_from_reads))
