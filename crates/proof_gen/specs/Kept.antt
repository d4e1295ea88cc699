-- Private. The texts that the code keeps for the letters of a link.
use Rattle.std.specs.Prelude.{◌≡◌, ◌<◌}
use Rattle.proof_gen.specs.declared.letters.Letters.{Letters}
use Rattle.proof_gen.specs.Templates.{term_a, term_b, term_o, term_x, term_y, term_z, term_l}

-- They are those of their number.
pub record AreItsOwn (letters : Letters) : Type 0 where
  pub positive : 0 < letters.number
  pub is_a : letters.a.items ≡ term_a letters.number
  pub is_b : letters.b.items ≡ term_b letters.number
  pub is_o : letters.o.items ≡ term_o letters.number
  pub is_x : letters.x.items ≡ term_x letters.number
  pub is_y : letters.y.items ≡ term_y letters.number
  pub is_z : letters.z.items ≡ term_z letters.number
  pub is_l : letters.l.items ≡ term_l letters.number
