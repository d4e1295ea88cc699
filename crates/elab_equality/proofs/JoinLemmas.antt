-- Private. Two terms of a command are joined.
use Rattle.std.proofs.Common.{◌≡◌, ◌≤◌, ◌+◌, ◌*◌, ◌⊎◌, inl, inr, ℕ, length, Option, Result, Ok, Err, IfErr, OnOk, refl, subst}
use Rattle.pair_pool.specs.Views.{IsOneToOne}
use Rattle.sym_table.specs.Table.{IsTable}
use Rattle.term_model.specs.Flips.{EqualUpToFlips}
use Rattle.term_model.specs.Terms.{Term}
use Rattle.term_parts.specs.declared.answers.RuleStop.{RuleStop}
use Rattle.term_pool.specs.Placing.{LacksCellOf, PlacesCellsOf}
use Rattle.term_pool.specs.Views.{TermsView, KeepsTerms, RefersTo}
use Rattle.term_pool.proofs.PlacedCells.{lacks_more, places_more}
use Rattle.term_pool.proofs.ReadingLemmas.{keeps-same}
use Rattle.term_pool.proofs.TermLemmas.{equal_where}
use Rattle.proof_store.specs.declared.added.Link.{Link}
use Rattle.equality_steps.specs.declared.site.Site.{Site}
use Rattle.equality_steps.specs.Blocks.{IsBlockAt}
use Rattle.flip_steps.specs.Memory.{AreForms, IsCellWithin, IsRemembered, MeetsWithin, count_of}
use Rattle.flip_steps.specs.Stages.{IsMadeToJoin}
use Rattle.flip_steps.specs.Subterms.{IsWithin, whole, argument}
use Rattle.flip_steps.specs.Units.{AddsUnits}
use Rattle.flip_steps.proofs.OrderLemmas.{refers_later}
use Rattle.flip_steps.proofs.UnitLemmas.{units_extend, units_more}
use Rattle.equality_blocks.specs.Counts.{IsCellOf}
use Rattle.equality_blocks.specs.Made.{IsMadeFor, IsPlacedFor}
use Rattle.equality_blocks.proofs.JoinedTerms.{joined_made}
use Rattle.equality_blocks.proofs.StayLemmas.{paired_later}
use Rattle.elab_equality.specs.declared.work.Work.{Work}
use Rattle.elab_equality.specs.Linked.{AreFlips, IsInCommand}
use Rattle.elab_equality.specs.Work.{IsDone, IsWork}
use Rattle.elab_equality.proofs.LinkLemmas.{in_command_later}
use Rattle.elab_equality.proofs.WorkLemmas.{work_grown}

pub pair_equal : (p : Site) (v : TermsView) → IsTable p.symbols.now → IsOneToOne v.pass → (a b : ℕ) → AreFlips p v a b → (t u : Term)
    → RefersTo p.symbols.now v a t → RefersTo p.symbols.now v b u → EqualUpToFlips t u
pair_equal p v table one a b h t u left right =
    subst (EqualUpToFlips t) ((equal_where p.symbols.now v table one b b h.right u h.right_refers right).0 refl)
    (subst (λ x. EqualUpToFlips x h.right) ((equal_where p.symbols.now v table one a a h.left t h.left_refers left).0 refl) h.equal)

-- what stands in what stands in a term
pub within_within : (t u w : Term) → IsWithin t u → IsWithin u w → IsWithin t w
within_within t u _ h whole = h
within_within t u _ h (argument x a k there) = argument x a (within_within t u x h k) there

module _ (p : Site) (u v : TermsView) (a b : Work) (x y : ℕ) (h : IsWork p u a) (pair : AreFlips p u x y) (keeps : KeepsTerms u v) (one : IsOneToOne v.pass) (table : IsTable p.symbols.now) where
  made_joined : (t : Term) → IsMadeToJoin p.symbols.now v x y t → IsMadeFor p v t
  made_joined t k =
      let left_in = in_command_later p u v keeps x pair.left_in in
      let right_in = in_command_later p u v keeps y pair.right_in in
      joined_made p v (λ q r a b first second. equal_where p.symbols.now v table one q r a b first second) x y pair.left pair.right
      (refers_later p.symbols.now u v x pair.left keeps pair.left_refers) (refers_later p.symbols.now u v y pair.right keeps pair.right_refers)
      (paired_later p u v keeps pair.left pair.right pair.paired) left_in.root right_in.root left_in.is left_in.stands right_in.is right_in.stands t k

  cell_in : (z r : ℕ) → IsInCommand p u z → IsCellWithin p.symbols.now v z r → IsCellOf p v r
  cell_in z r inside k =
      let later = in_command_later p u v keeps z inside in
      let same = (equal_where p.symbols.now v table one z z k.stands.whole later.stands.term k.stands.whole_refers later.stands.refers).0 refl in
      record {
        root = later.root;
        is = later.is;
        within = record {
          cell = k.cell;
          stands = record {
            whole = later.stands.whole;
            whole_refers = later.stands.whole_refers;
            term = k.stands.term;
            refers = k.stands.refers;
            within = within_within later.stands.whole later.stands.term k.stands.term later.stands.within (subst (λ t. IsWithin t k.stands.term) same k.stands.within);
          };
        };
      }

  met_in : MeetsWithin p.symbols.now v x y a.forms b.forms → (r : ℕ) → IsRemembered b.forms r → IsRemembered a.forms r ⊎ IsCellOf p v r
  met_in met r k = go (met r k)
    where
      go : IsRemembered a.forms r ⊎ (IsCellWithin p.symbols.now v x r ⊎ IsCellWithin p.symbols.now v y r) → IsRemembered a.forms r ⊎ IsCellOf p v r
      go (inl before) = inl before
      go (inr (inl left)) = inr (cell_in x r pair.left_in left)
      go (inr (inr right)) = inr (cell_in y r pair.right_in right)

  pub join_done : (r : Result (Option Link) RuleStop) → OnOk r (IsBlockAt p v b.block) → OnOk r (AreForms p v b.block b.forms)
      → OnOk r (AddsUnits p v a.block b.block (IsMadeToJoin p.symbols.now v x y))
      → OnOk r (length b.block + 3 * count_of a.forms ≤ length a.block + 3 * count_of b.forms + 2) → OnOk r (MeetsWithin p.symbols.now v x y a.forms b.forms)
      → PlacesCellsOf p.symbols.now u.pass v.pass (IsMadeToJoin p.symbols.now v x y)
      → IfErr r (λ e. e ≡ RuleStop.PoolFull → LacksCellOf p.symbols.now v.pass (IsMadeToJoin p.symbols.now v x y)) → IsDone p u v a b 2 r
  join_done (Ok l) block forms units few met placed full = record {
    keeps = keeps;
    placed = places_more p.symbols.now u.pass v.pass (IsMadeToJoin p.symbols.now v x y) (IsPlacedFor p v) (λ t k. inl (made_joined t k)) placed;
    full = tt;
    moved = record {
      work = work_grown p u v a b keeps h block forms
          (units_more p v v a.block b.block (IsMadeToJoin p.symbols.now v x y) (IsMadeFor p v) (keeps-same v v refl) made_joined units) (met_in met);
      more = units_extend p v a.block b.block (IsMadeToJoin p.symbols.now v x y) units;
      few = few;
    };
  }
  join_done (Err e) block forms units few met placed full = record {
    keeps = keeps;
    placed = places_more p.symbols.now u.pass v.pass (IsMadeToJoin p.symbols.now v x y) (IsPlacedFor p v) (λ t k. inl (made_joined t k)) placed;
    full = λ f. lacks_more p.symbols.now v.pass (IsMadeToJoin p.symbols.now v x y) (IsPlacedFor p v) (λ t k. inl (made_joined t k)) (full f);
    moved = tt;
  }
