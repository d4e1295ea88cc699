-- Cited by crates above. What is known of the arguments of an application, and that it stays.
use Rattle.std.proofs.Common.{◌≡◌, ◌≢◌, ◌<◌, ◌^◌, inl, inr, ℕ, Bool, true, false, List, [], ◌∷◌, ◌++◌, map, Option, Some, None, nat_lt, nat_eq}
use Rattle.std.proofs.Common.{unwrap_or}
use Rattle.std.proofs.Common.{if◌then◌else◌, Contains, refl, sym, ◌∙◌, ap, subst, arith}
use Rattle.std.specs.HashMap.{get}
use Rattle.std.specs.List.{AllByRecursion, flat_map}
use Rattle.std.specs.Option.{option_to_list}
use Rattle.pair_pool.specs.Trees.{leaf}
use Rattle.pair_pool.specs.Views.{IsOneToOne, HasPartsOfTrees}
use Rattle.proof_store.specs.AddedSteps.{AddedStep}
use Rattle.proof_store.specs.declared.added.Link.{Link}
use Rattle.sym_table.specs.Table.{Table, IsTable}
use Rattle.term_model.specs.Flips.{equality}
use Rattle.term_model.specs.Terms.{Term, numeral, variable, operation, call, let_in, no_terms, term}
use Rattle.term_model.proofs.Lists.{contains_head, contains_later}
use Rattle.term_pool.specs.Building.{IsAppliedLeaf}
use Rattle.term_pool.specs.Reading.{IsLet, arguments_of}
use Rattle.term_pool.specs.StandsFor.{StandsFor}
use Rattle.term_pool.specs.Views.{TermsView, KeepsTerms, RefersTo, ReferToAll}
use Rattle.term_pool.proofs.ReadingLemmas.{leaf_of}
use Rattle.term_pool.proofs.TermLemmas.{equal_where}
use Rattle.equality_steps.specs.Blocks.{Extends}
use Rattle.equality_steps.specs.Links.{LinkSays, LinksSay, LinkEquates}
use Rattle.equality_steps.specs.declared.site.Site.{Site}
use Rattle.flip_steps.specs.declared.forms.Formed.{Formed}
use Rattle.flip_steps.specs.declared.forms.Forms.{Forms}
use Rattle.flip_steps.specs.Forms.{IsFormOf}
use Rattle.flip_steps.specs.Memory.{AreForms, IsEquatedBy, IsFormedAs, IsRememberedAs}
use Rattle.flip_steps.specs.Remembering.{AreArgumentsSettled, AreGathered, IsApplicationAt, IsGatheredFor, IsSettled, alone, found_in, form_in, links_in}
use Rattle.flip_steps.specs.Stages.{StandsBefore}
use Rattle.flip_steps.proofs.OrderLemmas.{form_later, refers_later}
use Rattle.flip_steps.proofs.RefillLemmas.{in_order_itself}

-- a leaf is its own form
leaf_form : (before : Term → Term → Type 0) (s : Table) (k : ℕ) (t : Term) → StandsFor s (leaf k) t → IsFormOf before t t
leaf_form before s k (numeral n) h = refl
leaf_form before s k (variable x) h = refl
leaf_form before s k (operation op no_terms) h = (no_terms, refl, in_order_itself before (operation op no_terms) (λ a b e. absurd cc))
leaf_form before s k (operation op (term t ts)) h = absurd h
leaf_form before s k (call f no_terms) h = (no_terms, refl, refl)
leaf_form before s k (call f (term t ts)) h = absurd h
leaf_form before s k (let_in bs t) h = absurd h

-- what is found, of a leaf and of a cell
data IsFound (forms : Forms) (r : ℕ) (x : Formed) : Type 0 where
  of_leaf : r < 2 ^ 30 → x ≡ alone r → IsFound forms r x
  of_cell : IsRememberedAs forms r x → IsFound forms r x

found_cases : (forms : Forms) (r : ℕ) (x : Formed) → found_in forms r ≡ Some x → IsFound forms r x
found_cases forms r x e = go (nat_lt r (2 ^ 30)) refl e
  where
    go : (b : Bool) → nat_lt r (2 ^ 30) ≡ b → (if b then Some (alone r) else get nat_eq forms.formed r) ≡ Some x → IsFound forms r x
    go true d f = let same : x ≡ alone r = cc in of_leaf (grind arith) same
    go false d f = of_cell f

-- what a link says of two terms
abbrev pub Tells : Site → TermsView → List AddedStep → Option Link → Term → Term → Type 0
Tells p v steps None t u = t ≡ u
Tells p v steps (Some link) t u = (t ≢ u) × LinkSays p v steps link (equality t u ∷ [])

-- the form of a term, by what is known of it
pub record HasForm (p : Site) (v : TermsView) (steps : List AddedStep) (t : Term) (x : Formed) : Type 0 where
  pub form : Term
  pub refers : RefersTo p.symbols.now v x.form form
  pub is : IsFormOf (StandsBefore p.symbols.now v) t form
  pub told : Tells p v steps x.link t form

module _ (p : Site) (v : TermsView) (steps : List AddedStep) (table : IsTable p.symbols.now) (one : IsOneToOne v.pass) where
  told_of : (link : Option Link) (a b : ℕ) (t u : Term) → RefersTo p.symbols.now v a t → RefersTo p.symbols.now v b u
      → IsEquatedBy p v steps link a b → Tells p v steps link t u
  told_of None a b t u left right e = (equal_where p.symbols.now v table one a b t u left right).0 e
  told_of (Some link) a b t u left right (apart, says) =
      let first = (equal_where p.symbols.now v table one a a says.left t says.left_refers left).0 refl in
      let second = (equal_where p.symbols.now v table one b b says.right u says.right_refers right).0 refl in (
        λ e. apart ((equal_where p.symbols.now v table one a b t u left right).1 e),
        subst (λ x. LinkSays p v steps link (equality t x ∷ [])) second
            (subst (λ x. LinkSays p v steps link (equality x says.right ∷ [])) first says.says),
      )

  pub has_form : (r : ℕ) (t : Term) (x : Formed) → RefersTo p.symbols.now v r t → IsFormedAs p v steps r x → HasForm p v steps t x
  has_form r t x refers h =
      let same = (equal_where p.symbols.now v table one r r h.term t h.refers refers).0 refl in
      record {
        form = h.form;
        refers = h.form_refers;
        is = subst (λ y. IsFormOf (StandsBefore p.symbols.now v) y h.form) same h.is;
        told = told_of x.link r x.form t h.form refers h.form_refers h.link;
      }

  module _ (parts : HasPartsOfTrees v.pass) (forms : Forms) (right : AreForms p v steps forms) where
    pub formed_found : (r : ℕ) (t : Term) (x : Formed) → RefersTo p.symbols.now v r t → found_in forms r ≡ Some x → IsFormedAs p v steps r x
    formed_found r t x refers e = go (found_cases forms r x e)
      where
        go : IsFound forms r x → IsFormedAs p v steps r x
        go (of_cell found) = right r x found
        go (of_leaf low is) =
            let tree = leaf_of v.pass one parts r refers.tree refers.known low in
            subst (IsFormedAs p v steps r) (sym is) (record {
              term = t;
              form = t;
              refers = refers;
              form_refers = refers;
              is = leaf_form (StandsBefore p.symbols.now v) p.symbols.now r t (subst (λ y. StandsFor p.symbols.now y t) tree refers.stands);
              link = refl;
            })

    -- one argument more
    gathered_more : (r : ℕ) (t : Term) (link : Option Link) (f : ℕ) (args : List ℕ) (ts : List Term) (fs : List ℕ) (links : List Link)
        → HasForm p v steps t (record { form = f; link = link }) → AreGathered p v steps args ts fs links
        → AreGathered p v steps (r ∷ args) (t ∷ ts) (f ∷ fs) (option_to_list link ++ links)
    gathered_more r t None f args ts fs links h rest = record {
      us = h.form ∷ rest.us;
      refer = (h.refers, rest.refer);
      are = (h.is, rest.are);
      clauses = rest.clauses;
      say = rest.say;
      differences = inl (h.told, rest.differences);
      same = λ e. ap (λ x. x ∷ rest.us) (sym h.told) ∙ ap (λ xs. t ∷ xs) (rest.same e);
    }
    gathered_more r t (Some link) f args ts fs links h rest = record {
      us = h.form ∷ rest.us;
      refer = (h.refers, rest.refer);
      are = (h.is, rest.are);
      clauses = (equality t h.form ∷ []) ∷ rest.clauses;
      say = (h.told.1, rest.say);
      differences = inr (h.told.0, (rest.clauses, refl, rest.differences));
      same = λ e. absurd cc;
    }

    pub gathered : (args : List ℕ) (ts : List Term) → ReferToAll p.symbols.now v args ts → AllByRecursion (IsSettled forms) args
        → AreGathered p v steps args ts (map (form_in forms) args) (flat_map (links_in forms) args)
    gathered [] [] refer settled = record { us = []; refer = tt; are = refl; clauses = []; say = tt; differences = refl; same = λ e. refl }
    gathered [] (t ∷ ts) refer settled = absurd refer
    gathered (r ∷ args) [] refer settled = absurd refer
    gathered (r ∷ args) (t ∷ ts) refer settled =
        let x = settled.0.formed in
        let found = settled.0.is in
        let form = has_form r t x refer.0 (formed_found r t x refer.0 found) in
        let rest = gathered args ts refer.1 settled.1 in
        subst (λ (o : Option Formed). AreGathered p v steps (r ∷ args) (t ∷ ts) ((unwrap_or o (alone r)).form ∷ map (form_in forms) args)
        (option_to_list (unwrap_or o (alone r)).link ++ flat_map (links_in forms) args)) (sym found)
        (gathered_more r t x.link x.form args ts (map (form_in forms) args) (flat_map (links_in forms) args) form rest)

-- what is known stays known
abbrev pub LinksStay : Type 0
LinksStay =
    (p : Site) (v w : TermsView) (old new : List AddedStep) (link : Link) (clause : List Term) → KeepsTerms v w → Extends old new →
    LinkSays p v old link clause → LinkSays p w new link clause

module _ (stay : LinksStay) (p : Site) (v w : TermsView) (old new : List AddedStep) (keeps : KeepsTerms v w) (more : Extends old new) where
  pub equates_later : (link : Link) (a b : ℕ) → LinkEquates p v old link a b → LinkEquates p w new link a b
  equates_later link a b h = record {
    left = h.left;
    right = h.right;
    left_refers = refers_later p.symbols.now v w a h.left keeps h.left_refers;
    right_refers = refers_later p.symbols.now v w b h.right keeps h.right_refers;
    says = stay p v w old new link (equality h.left h.right ∷ []) keeps more h.says;
  }

  pub equated_later : (link : Option Link) (a b : ℕ) → IsEquatedBy p v old link a b → IsEquatedBy p w new link a b
  equated_later None a b h = h
  equated_later (Some link) a b h = (h.0, equates_later link a b h.1)

  pub formed_later : (r : ℕ) (x : Formed) → IsFormedAs p v old r x → IsFormedAs p w new r x
  formed_later r x h = record {
    term = h.term;
    form = h.form;
    refers = refers_later p.symbols.now v w r h.term keeps h.refers;
    form_refers = refers_later p.symbols.now v w x.form h.form keeps h.form_refers;
    is = form_later p.symbols.now v w keeps.pass.grows h.term h.form h.is;
    link = equated_later x.link r x.form h.link;
  }

  pub forms_later : (forms : Forms) → AreForms p v old forms → AreForms p w new forms
  forms_later forms h r x found = formed_later r x (h r x found)

  pub say_later : (links : List Link) (clauses : List (List Term)) → LinksSay p v old links clauses → LinksSay p w new links clauses
  say_later [] [] h = tt
  say_later [] (c ∷ cs) h = h
  say_later (l ∷ ls) [] h = h
  say_later (l ∷ ls) (c ∷ cs) h = (stay p v w old new l c keeps more h.0, say_later ls cs h.1)

-- a head that is no let's
pub applied_no_let : (s : Table) (head : ℕ) (ts : List Term) (t : Term) → IsAppliedLeaf s head ts t → IsLet t → ⊥
applied_no_let s head ts (numeral n) h k = k
applied_no_let s head ts (variable x) h k = k
applied_no_let s head ts (operation op us) h k = k
applied_no_let s head ts (call f us) h k = k
applied_no_let s head ts (let_in bs u) h k = h

-- what is known of all arguments of an application
settled_from : (s : Table) (v : TermsView) (forms : Forms) (args : List ℕ) (ts : List Term) → ReferToAll s v args ts
    → ((a : Term) (q : ℕ) → RefersTo s v q a → Contains ts a → IsSettled forms q) → AllByRecursion (IsSettled forms) args
settled_from s v forms [] ts h k = tt
settled_from s v forms (q ∷ args) [] h k = absurd h
settled_from s v forms (q ∷ args) (t ∷ ts) h k =
    (k t q h.0 (contains_head t ts), settled_from s v forms args ts h.1 (λ a r refers there. k a r refers (contains_later t a ts there)))

pub arguments_settled : (p : Site) (v : TermsView) (forms : Forms) (r : ℕ) (args : List ℕ) → (app : IsApplicationAt p v r)
    → AreArgumentsSettled p.symbols.now v forms r
    → ReferToAll p.symbols.now v args (arguments_of app.side.term) → AllByRecursion (IsSettled forms) args
arguments_settled p v forms r args app settled refer =
    settled_from p.symbols.now v forms args (arguments_of app.side.term) refer (λ a q refers there. settled app.side.term a q app.side.refers refers there)

pub gathered_for : (p : Site) (v : TermsView) (steps : List AddedStep) → IsTable p.symbols.now → IsOneToOne v.pass → HasPartsOfTrees v.pass → (forms : Forms)
    → AreForms p v steps forms → (r head : ℕ) (args fs : List ℕ) (links : List Link) → (app : IsApplicationAt p v r)
    → IsAppliedLeaf p.symbols.now head (arguments_of app.side.term) app.side.term → ReferToAll p.symbols.now v args (arguments_of app.side.term)
    → AllByRecursion (IsSettled forms) args → fs ≡ map (form_in forms) args → links ≡ flat_map (links_in forms) args → IsGatheredFor p v steps r head fs links
gathered_for p v steps table one parts forms right r head args fs links app applied refer settled e d =
    let g = gathered p v steps table one parts forms right args (arguments_of app.side.term) refer settled in
    subst (λ xs. IsGatheredFor p v steps r head xs links) (sym e) (subst (λ xs. IsGatheredFor p v steps r head (map (form_in forms) args) xs) (sym d) (record {
      side = app.side;
      given = record { term = app.side.term; refers = app.side.refers; applied = applied; us = g.us; refer = g.refer; are = g.are };
      clauses = g.clauses;
      say = g.say;
      differences = g.differences;
      same = g.same;
    }))
