use Rattle.proof_gen.specs.Templates.{term_a, term_b, term_o, term_x, term_y, term_z, term_l}
use Rattle.proof_gen.proofs.letters.Letters.turn_to.Goals as goal

pub returns-clause-own : goal.returns-clause-own
unfolding term_a term_b term_o term_x term_y term_z term_l
returns-clause-own c = record {
  positive = c.requires;
  is_a = c.in_ok-renew.ensures;
  is_b = c.in_ok-renew-2.ensures;
  is_o = c.in_ok-renew-3.ensures;
  is_x = c.in_ok-renew-4.ensures;
  is_y = c.in_ok-renew-5.ensures;
  is_z = c.in_ok-renew-6.ensures;
  is_l = c.in_ok-renew-7.ensures;
}
