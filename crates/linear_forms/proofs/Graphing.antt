-- A graph of nothing, and a graph with one entry more.
use Rattle.std.proofs.Common.{◌≡◌, ◌≢◌, ◌⊎◌, inl, inr, ℕ, zero, suc, ◌<◌, ◌≤◌, ◌^◌, Bool, true, false, nat_eq, if◌then◌else◌, pos, List, [], ◌∷◌, ◌++◌, length, slice_index_or, Some, None, refl, sym, ap, ◌∙◌, subst, arith}
use Rattle.std.proofs.lemmas.Bool.Decides.{nat_tests}
use Rattle.sym_table.specs.Table.{Table}
use Rattle.term_model.specs.Terms.{numeral, Terms, no_terms, term}
use Rattle.term_pool.specs.Views.{TermsView}
use Rattle.rule_model.specs.Weights.{weight_sum}
use Rattle.linear_forms.specs.declared.entries.Entry.{Entry}
use Rattle.linear_forms.specs.declared.graph.Graph.{Graph}
use Rattle.linear_forms.specs.declared.memory.Item.{Item}
use Rattle.linear_forms.specs.declared.memory.Item.TheVariants.{Term as TermItem, List as ListItem}
use Rattle.linear_forms.specs.declared.nodes.Node.{Node}
use Rattle.linear_forms.specs.declared.nodes.Node.TheVariants.{Number, Opaque, Multiple, Sum}
use Rattle.linear_forms.specs.declared.nodes.Factors.{Factors}
use Rattle.linear_forms.specs.declared.nodes.Factors.TheVariants.{Constants, Single, Many}
use Rattle.linear_forms.specs.declared.nodes.Info.{Info}
use Rattle.linear_forms.specs.declared.visiting.Visit.TheVariants as Visit
use Rattle.linear_forms.specs.Factors.{IsAbove}
use Rattle.linear_forms.specs.Graphs.{AreSome, IsItemMeant, IsItem, IsNode, AreFactors, IsInfo, IsEntry, no_info, info_at, IsGraphAt, IsGraph, AddsEntry, KeepsNumbers, IsMetItem, KeepsMet, IsVisitOfItem}
use Rattle.linear_forms.specs.Memos.{IsForgotten, number_remembered}
use Rattle.linear_forms.specs.Sweeps.{node_at}
use Rattle.linear_forms.proofs.Walking.{same_item}

pub empty_graph : (s : Table) (v : TermsView) (graph : Graph) → graph.nodes.items ≡ [] → graph.infos.items ≡ [] → IsForgotten graph.memo → IsGraph s v graph
empty_graph s v graph nodes infos memo = record {
  at = λ k. term (numeral 0) no_terms;
  right = record {
    long = rw (nodes, infos) refl;
    filled = λ k. tt;
    above = λ k below. absurd (never k below);
    right = λ k below. absurd (never k below);
    known = λ k below. absurd (never k below);
    there = λ x k e. absurd (nothing x k e);
    meant = λ x k e. absurd (nothing x k e);
    own = λ k r e. absurd (let f : Number (pos 0) ≡ Opaque r = subst (λ ns. node_at ns k ≡ Opaque r) nodes e in cc);
  };
}
  where
    never : (k : ℕ) → k < length graph.nodes.items → ⊥
    never k h = let e = subst (λ ns. k < length ns) nodes h in omega (arith, e)

    nothing : (x : Item) (k : ℕ) → number_remembered graph.memo x ≡ Some k → ⊥
    nothing x k e = let f : None ≡ Some k = sym (memo x) ∙ e in absurd (cc)

-- lists with one item more
pub before : {X : Type 0} (xs : List X) (y d : X) (k : ℕ) → k < length xs → slice_index_or (xs ++ y ∷ []) k d ≡ slice_index_or xs k d
before [] y d k h = absurd (omega (arith, h))
before (x ∷ xs) y d zero h = refl
before (x ∷ xs) y d (suc k) h = before xs y d k (omega (arith, h))

pub last : {X : Type 0} (xs : List X) (y d : X) → slice_index_or (xs ++ y ∷ []) (length xs) d ≡ y
last [] y d = refl
last (x ∷ xs) y d = last xs y d

behind : {X : Type 0} (xs : List X) (d : X) (k : ℕ) → length xs ≤ k → slice_index_or xs k d ≡ d
behind [] d k h = refl
behind (x ∷ xs) d zero h = absurd (omega (arith, h))
behind (x ∷ xs) d (suc k) h = behind xs d k (omega (arith, h))

pub longer : {X : Type 0} (xs : List X) (y : X) → length (xs ++ y ∷ []) ≡ suc (length xs)
longer [] y = refl
longer (x ∷ xs) y = ap suc (longer xs y)

-- what holds of nodes holds by terms that agree below
node_agrees : (s : Table) (v : TermsView) (at to : ℕ → Terms) (k : ℕ) (ts : Terms) (node : Node) → ((j : ℕ) → j < k → to j ≡ at j) → IsAbove k node → IsNode s v at ts node → IsNode s v to ts node
node_agrees s v at to k ts (Number n) agrees above h = record { counts = h.counts; weighs = h.weighs }
node_agrees s v at to k ts (Opaque r) agrees above h = h
node_agrees s v at to k ts (Multiple p) agrees above h =
    let e = agrees p.node above in record { counts = λ reading. rw e (h.counts reading); weighs = rw e h.weighs }
node_agrees s v at to k ts (Sum p q) agrees above h =
    let e = agrees p.node above.0 in
    let f = agrees q.node above.1 in record { counts = λ reading. rw (e, f) (h.counts reading); weighs = rw (e, f) h.weighs }

info_agrees : (at to : ℕ → Terms) (k : ℕ) (ts : Terms) (info : Info) → ((j : ℕ) → j ≤ k → to j ≡ at j) → IsInfo at k ts info → IsInfo to k ts info
info_agrees at to k ts info agrees h = record { sum_is = h.sum_is; product_is = h.product_is; factors_are = go info.factors h.factors_are }
  where
    go : (f : Factors) → AreFactors at k ts f → AreFactors to k ts f
    go (Constants n) x = x
    go (Single p) x =
        let e = agrees p.node x.low in
        record { others_are = x.others_are; low = x.low; counts = λ narrow reading. rw e (x.counts narrow reading); weighs = λ narrow. rw e (x.weighs narrow) }
    go Many x = x

graph_agrees : (s : Table) (v : TermsView) (graph : Graph) (at to : ℕ → Terms) → ((j : ℕ) → j < length graph.nodes.items → to j ≡ at j) → ((k : ℕ) → AreSome (to k)) → IsGraphAt s v graph at → IsGraphAt s v graph to
graph_agrees s v graph at to agrees filled h = record {
  long = h.long;
  filled = filled;
  above = h.above;
  right = λ k below narrow.
      let e = agrees k below in
      let node = node_at graph.nodes.items k in
      subst (λ ts. IsNode s v to ts node) (sym e)
      (node_agrees s v at to k (at k) node (λ j less. agrees j (omega (arith, less, below))) (h.above k below)
      (h.right k below (subst (λ ts. weight_sum ts < 2 ^ 127) e narrow)));
  known = λ k below.
      let e = agrees k below in
      subst (λ ts. IsInfo to k ts (info_at graph k)) (sym e)
      (info_agrees at to k (at k) (info_at graph k) (λ j less. agrees j (omega (arith, less, below))) (h.known k below));
  there = h.there;
  meant = λ x k e. subst (IsItemMeant s v x) (sym (agrees k (h.there x k e))) (h.meant x k e);
  own = h.own;
}

meant_filled : (s : Table) (v : TermsView) (x : Item) (ts : Terms) → IsItemMeant s v x ts → AreSome ts
meant_filled s v (TermItem r) ts h = subst AreSome (sym h.alone) tt
meant_filled s v (ListItem r) ts h = h.filled

-- the terms of the next number
next : (ℕ → Terms) → ℕ → Terms → ℕ → Terms
next at own ts k = if nat_eq k own then ts else at k

next_own : (at : ℕ → Terms) (own : ℕ) (ts : Terms) → next at own ts own ≡ ts
unfolding next
next_own at own ts = let e : nat_eq own own ≡ true = grind (arith, nat_tests) in rw e refl

next_other : (at : ℕ → Terms) (own : ℕ) (ts : Terms) (k : ℕ) → k ≢ own → next at own ts k ≡ at k
unfolding next
next_other at own ts k h = let e : nat_eq k own ≡ false = grind (arith, nat_tests) in rw e refl

next_filled : (at : ℕ → Terms) (own : ℕ) (ts : Terms) → ((k : ℕ) → AreSome (at k)) → AreSome ts → (k : ℕ) → AreSome (next at own ts k)
unfolding next
next_filled at own ts h filled k = go (nat_eq k own)
  where
    go : (b : Bool) → AreSome (if b then ts else at k)
    go true = filled
    go false = h k

-- one entry more
module _ (s : Table) (v : TermsView) (old new : Graph) (x : Item) (entry : Entry) (graph : IsGraph s v old) (item : IsItem s v x) (unmet : number_remembered old.memo x ≡ None) (visit : IsVisitOfItem s v old x (Visit.Done entry)) (settles : AddsEntry old new x entry) where
  abbrev own : ℕ
  own = length old.nodes.items

  abbrev to : ℕ → Terms
  to = next graph.at own item.terms

  to_own : to own ≡ item.terms
  to_own = next_own graph.at own item.terms

  right : IsGraphAt s v old to
  right =
      graph_agrees s v old graph.at to (λ j less. next_other graph.at own item.terms j (omega (arith, less)))
      (next_filled graph.at own item.terms graph.right.filled (meant_filled s v x item.terms item.meant)) graph.right

  here : IsEntry s v to own x entry
  here = visit to right (subst (IsItemMeant s v x) (sym to_own) item.meant)

  long : length new.nodes.items ≡ suc own
  long = ap length settles.nodes ∙ longer old.nodes.items entry.node

  cases : (k : ℕ) → k < length new.nodes.items → (k < own) ⊎ (k ≡ own)
  cases k h = go (omega (arith, h, long))
    where
      go : k < suc own → (k < own) ⊎ (k ≡ own)
      go less = grind (arith, less)

  node_before : (k : ℕ) → k < own → node_at new.nodes.items k ≡ node_at old.nodes.items k
  node_before k h = rw settles.nodes (before old.nodes.items entry.node (Number (pos 0)) k h)

  node_last : node_at new.nodes.items own ≡ entry.node
  node_last = rw settles.nodes (last old.nodes.items entry.node (Number (pos 0)))

  info_before : (k : ℕ) → k < own → info_at new k ≡ info_at old k
  info_before k h = rw settles.infos (before old.infos.items entry.info no_info k (omega (arith, h, graph.right.long)))

  info_last : info_at new own ≡ entry.info
  info_last =
      rw settles.infos
      (let e : length old.nodes.items ≡ length old.infos.items = sym graph.right.long in
      rw e (last old.infos.items entry.info no_info))

  remembered_cases : (y : Item) (k : ℕ) → number_remembered new.memo y ≡ Some k → ((y ≡ x) × (k ≡ own)) ⊎ (number_remembered old.memo y ≡ Some k)
  remembered_cases y k e = go (same_item y x)
    where
      go : (y ≡ x) ⊎ (y ≢ x) → ((y ≡ x) × (k ≡ length old.nodes.items)) ⊎ (number_remembered old.memo y ≡ Some k)
      go (inl same) =
          let f : Some (length old.nodes.items) ≡ Some k = sym settles.noted.here ∙ subst (λ z. number_remembered new.memo z ≡ Some k) same e in
          inl (same, cc)
      go (inr other) = inr (sym (settles.noted.others y other) ∙ e)

  keeps : (y : Item) (k : ℕ) → number_remembered old.memo y ≡ Some k → number_remembered new.memo y ≡ Some k
  keeps y k e = go (same_item y x)
    where
      go : (y ≡ x) ⊎ (y ≢ x) → number_remembered new.memo y ≡ Some k
      go (inl same) = absurd (let f : None ≡ Some k = sym unmet ∙ subst (λ z. number_remembered old.memo z ≡ Some k) same e in cc)
      go (inr other) = settles.noted.others y other ∙ e

  pub settled_keeps : KeepsNumbers old new
  settled_keeps = keeps

  pub settled_found : IsMetItem new x (Some (record { number = own; info = entry.info }))
  settled_found = (settles.noted.here, sym info_last)

  pub settled_met : KeepsMet old new
  settled_met y f h = (keeps y f.number h.0, h.1 ∙ sym (info_before f.number (graph.right.there y f.number h.0)))

  pub settled_grows : length old.nodes.items ≤ length new.nodes.items
  settled_grows = omega (arith, long)

  own_cases : (k r : ℕ) → node_at new.nodes.items k ≡ Opaque r → (k < own) ⊎ (k ≡ own)
  own_cases k r e = go (compare k (length new.nodes.items))
    where
      compare : (m n : ℕ) → (m < n) ⊎ (n ≤ m)
      compare m n = grind arith

      go : (k < length new.nodes.items) ⊎ (length new.nodes.items ≤ k) → (k < own) ⊎ (k ≡ own)
      go (inl less) = cases k less
      go (inr more) =
          absurd (let f : Number (pos 0) ≡ Opaque r = sym (behind new.nodes.items (Number (pos 0)) k more) ∙ e in cc)

  pub settled_graph : IsGraph s v new
  settled_graph = record {
    at = to;
    right = record {
      long = infos_long;
      filled = right.filled;
      above = λ k below.
          elim (cases k below) [
            | inl less ↦ subst (IsAbove k) (sym (node_before k less)) (right.above k less)
            | inr same ↦ subst (λ n. IsAbove n (node_at new.nodes.items n)) (sym same) (subst (IsAbove own) (sym node_last) here.above)
          ];
      right = λ k below.
          elim (cases k below) [
            | inl less ↦ (λ narrow. subst (IsNode s v to (to k)) (sym (node_before k less)) (right.right k less narrow))
            | inr same ↦ subst (λ n. weight_sum (to n) < 2 ^ 127 → IsNode s v to (to n) (node_at new.nodes.items n)) (sym same) (λ narrow. subst (IsNode s v to (to own)) (sym node_last) (here.right narrow))
          ];
      known = λ k below.
          elim (cases k below) [
            | inl less ↦ subst (IsInfo to k (to k)) (sym (info_before k less)) (right.known k less)
            | inr same ↦ subst (λ n. IsInfo to n (to n) (info_at new n)) (sym same) (subst (IsInfo to own (to own)) (sym info_last) here.known)
          ];
      there = λ y k e.
          elim (remembered_cases y k e) [
            | inl both ↦ omega (arith, both.1, long)
            | inr before ↦ (let less = right.there y k before in omega (arith, less, long))
          ];
      meant = λ y k e.
          elim (remembered_cases y k e) [
            | inl both ↦ subst (λ n. IsItemMeant s v y (to n)) (sym both.1) (subst (λ z. IsItemMeant s v z (to own)) (sym both.0) (subst (IsItemMeant s v x) (sym to_own) item.meant))
            | inr before ↦ right.meant y k before
          ];
      own = λ k r e.
          elim (own_cases k r e) [
            | inl less ↦ keeps (TermItem r) k (right.own k r (sym (node_before k less) ∙ e))
            | inr same ↦ (
                let f : node_at new.nodes.items own ≡ Opaque r = subst (λ n. node_at new.nodes.items n ≡ Opaque r) same e in
                let mine : x ≡ TermItem r = here.own r (sym node_last ∙ f) in
                subst (λ y. number_remembered new.memo y ≡ Some k) mine (noted_here k same)
                )
          ];
    };
  }
    where
      noted_here : (k : ℕ) → k ≡ own → number_remembered new.memo x ≡ Some k
      noted_here k same = settles.noted.here ∙ ap Some (sym same)

      infos_long : length new.infos.items ≡ length new.nodes.items
      infos_long = ap length settles.infos ∙ longer old.infos.items entry.info ∙ ap suc graph.right.long ∙ sym long
