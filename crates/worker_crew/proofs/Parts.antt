-- What is said of work on terms, from one chunk to the next and where halves of terms are joined.
use Rattle.std.proofs.Common.{◌≡◌, ◌⊎◌, inl, inr, refl, sym, ◌∙◌, subst}
use Rattle.sym_table.specs.Table.{Table}
use Rattle.term_model.specs.Terms.{Term}
use Rattle.term_pool.specs.Halves.{AreHalves, IsJoined}
use Rattle.term_pool.specs.Placing.{LacksCellOf}
use Rattle.term_pool.specs.Views.{TermsView, KeepsTerms}
use Rattle.term_pool.proofs.HalfLemmas.{halves_keep, halves_place, halves_lack}
use Rattle.term_pool.proofs.Keeping.{terms-refl, terms-trans}
use Rattle.term_pool.proofs.PlacedCells.{lacks_more, places_more, places_more_then, places_none}
use Rattle.worker_crew.specs.Pieces.{Extends}
use Rattle.worker_crew.specs.Working.{IsWork}

pub extends_of : (v w : TermsView) → KeepsTerms v w → Extends v w
extends_of v w keeps = record { pool = keeps.pool; grows = keeps.pass.grows }

-- what is wanted of some terms is so where more is known
abbrev pub WantedStays : (TermsView → Term → Type 0) → Type 0
WantedStays wanted = (old new : TermsView) (t : Term) → Extends old new → wanted old t → wanted new t

pub no_work : (s : Table) (wanted : TermsView → Term → Type 0) (v w : TermsView) → w ≡ v → IsWork s wanted v w
no_work s wanted v w same =
    subst (λ z. IsWork s wanted v z) (sym same) (record { keeps = terms-refl v; placed = places_none s v.pass v.pass (wanted v) refl })

pub work_then : (s : Table) (wanted : TermsView → Term → Type 0) → WantedStays wanted → (u v w : TermsView) → IsWork s wanted u v → IsWork s wanted v w → IsWork s wanted u w
work_then s wanted stays u v w h k = record {
  keeps = terms-trans u v w h.keeps k.keeps;
  placed =
      places_more_then s u.pass v.pass w.pass (wanted w) k.keeps.pass
      (places_more s u.pass v.pass (wanted v) (wanted w) (λ t e. stays v w t (extends_of v w k.keeps) e) h.placed) k.placed;
}

-- `one` and `other` are halves of `whole`, they came to be `here` and `there`, and are joined to `new`
module _ (s : Table) (wanted : TermsView → Term → Type 0) (stays : WantedStays wanted) (whole one other here there new : TermsView)
    (split : AreHalves whole one other) (joined : IsJoined here there new) (h : IsWork s wanted one here) (k : IsWork s wanted other there) where
  pub here_extends : Extends here new
  here_extends = record { pool = joined.pool; grows = joined.grows }

  pub there_extends : Extends there new
  there_extends = record {
    pool = joined.pool ∙ (h.keeps.pool ∙ (split.pool ∙ sym (k.keeps.pool ∙ split.right_pool)));
    grows = joined.other_grows;
  }

  pub work_of_both : IsWork s wanted whole new
  work_of_both = record {
    keeps = halves_keep whole one other here there new split joined h.keeps k.keeps;
    placed =
        halves_place whole one other here there new split joined s (wanted new)
        (places_more s one.pass here.pass (wanted here) (wanted new) (λ t e. stays here new t here_extends e) h.placed)
        (places_more s other.pass there.pass (wanted there) (wanted new) (λ t e. stays there new t there_extends e) k.placed);
  }

  both_lack : LacksCellOf s here.pass (wanted here) ⊎ LacksCellOf s there.pass (wanted there) → LacksCellOf s here.pass (wanted new) ⊎ LacksCellOf s there.pass (wanted new)
  both_lack (inl e) = inl (lacks_more s here.pass (wanted here) (wanted new) (λ t w. stays here new t here_extends w) e)
  both_lack (inr e) = inr (lacks_more s there.pass (wanted there) (wanted new) (λ t w. stays there new t there_extends w) e)

  pub lacks_of_both : LacksCellOf s here.pass (wanted here) ⊎ LacksCellOf s there.pass (wanted there) → LacksCellOf s new.pass (wanted new)
  lacks_of_both e = halves_lack whole one other here there new split joined s (wanted new) h.keeps k.keeps (both_lack e)
