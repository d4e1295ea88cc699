-- The text begins with a bracket, and none of its tokens closes it.
use Rattle.std.proofs.Common.{ℕ, [], ◌∷◌, refl, inl}
use Rattle.std.specs.Prelude.{codes}
use Rattle.sexpr.specs.declared.lexing.Token.{Token}
use Rattle.sexpr.specs.declared.lexing.TokenKind.{TokenKind}
use Rattle.sexpr.specs.declared.lexing.TokenKind.TheVariants.{Open, Word}
use Rattle.sexpr.specs.Items.{no_items}
use Rattle.alethe_text.specs.Examples.{first_fault_behind}
use Rattle.alethe_text.proofs.Forms.{none_closes}
use Rattle.alethe_text.proofs.examples.form_is_judged_first.Goals as goal

abbrev at : TokenKind → ℕ → ℕ → Token
at kind start end = record { kind = kind; start = start; end = end }

pub returns : goal.returns
unfolding first_fault_behind
returns c = inl (record {
  before = [];
  bracket = at Open 0 1;
  after = at Word 1 5 ∷ at Word 6 8 ∷ at Open 9 10 ∷ at Word 10 12 ∷ [];
  read = (refl, (refl, (refl, (refl, (refl, refl)))));
  is_open = refl;
  start = refl;
  nested = (no_items, refl);
  unclosed = none_closes (codes "(step t1 (cl") (at Word 1 5 ∷ at Word 6 8 ∷ at Open 9 10 ∷ at Word 10 12 ∷ []) (λ e. absurd (cc), (λ e. absurd (cc), (λ e. absurd (cc), (λ e. absurd (cc), tt))));
})
