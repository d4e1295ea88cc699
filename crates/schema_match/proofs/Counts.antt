-- Cited by crates above. Arguments of which there are so many.
use Rattle.std.proofs.Common.{◌≡◌, length, refl, ap}
use Rattle.term_model.specs.Terms.{Term, Terms, no_terms, term, list_of}

pub none : (ts : Terms) → length (list_of ts) ≡ 0 → ts ≡ no_terms
none no_terms e = refl
none (term t ts) e = absurd cc

pub one : (ts : Terms) → length (list_of ts) ≡ 1 → (t : Term) × (ts ≡ term t no_terms)
one no_terms e = absurd cc
one (term t ts) e = (t, ap (term t) (none ts cc))

pub two : (ts : Terms) → length (list_of ts) ≡ 2 → (t : Term) × (u : Term) × (ts ≡ term t (term u no_terms))
two no_terms e = absurd cc
two (term t ts) e = go (one ts cc)
  where
    go : ((u : Term) × (ts ≡ term u no_terms)) → (x : Term) × (u : Term) × (term t ts ≡ term x (term u no_terms))
    go (u, same) = (t, u, ap (term t) same)

pub three : (ts : Terms) → length (list_of ts) ≡ 3 → (t : Term) × (u : Term) × (w : Term) × (ts ≡ term t (term u (term w no_terms)))
three no_terms e = absurd cc
three (term t ts) e = go (two ts cc)
  where
    go : ((u : Term) × (w : Term) × (ts ≡ term u (term w no_terms))) → (x : Term) × (u : Term) × (w : Term) × (term t ts ≡ term x (term u (term w no_terms)))
    go (u, w, same) = (t, u, w, ap (term t) same)
