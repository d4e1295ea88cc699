-- What the parts of a term come to.
use Rattle.std.proofs.Common.{ℕ}
use Rattle.sym_table.specs.Table.{Table}
use Rattle.term_model.specs.Terms.{Term}
use Rattle.term_pool.specs.Views.{TermsView, RefersTo, IsTerm}
use Rattle.term_parts.specs.Parts.{AreSidesOf}

-- the sides of an equality are terms
pub left_is_term : (s : Table) (v : TermsView) (sign : Term → Term) (r : ℕ) (p : ℕ × ℕ) → IsTerm s v r → ((t : Term) → RefersTo s v r t → AreSidesOf s v sign p t) → IsTerm s v p.0
left_is_term s v sign r p is sides =
    let both = sides is.means is.refers in record { means = both.left; refers = both.left_refers }

pub right_is_term : (s : Table) (v : TermsView) (sign : Term → Term) (r : ℕ) (p : ℕ × ℕ) → IsTerm s v r → ((t : Term) → RefersTo s v r t → AreSidesOf s v sign p t) → IsTerm s v p.1
right_is_term s v sign r p is sides =
    let both = sides is.means is.refers in record { means = both.right; refers = both.right_refers }
