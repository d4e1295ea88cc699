-- What is kept stays right, as scopes are entered and left.
use Rattle.std.proofs.Common.{◌≡◌, ◌++◌, ℕ, List, [], ◌∷◌, reverse, None, refl, sym, ◌∙◌, ap, subst}
use Rattle.std.proofs.lemmas.List.{reverse-append}
use Rattle.contexts.specs.declared.kept.Substitution.{Substitution}
use Rattle.contexts.specs.Kept.{IsRight, IsRightForSome, all_bindings, frames_of}
use Rattle.contexts.specs.PutIn.{StandForReplacement, AreReplacementBy, joined}
use Rattle.pair_pool.specs.Views.{IsOneToOne}
use Rattle.proof_store.specs.Meaning.{StandForItems}
use Rattle.rule_model.specs.Contexts.{images}
use Rattle.rule_model.specs.Proofs.{ProofItems}
use Rattle.rule_model.specs.Reading.{parent_at}
use Rattle.rule_model.specs.Replacement.{Replacement}
use Rattle.sym_table.specs.Table.{Table, IsTable}
use Rattle.term_model.specs.Terms.{Var, Term}
use Rattle.term_pool.specs.Views.{TermsView, KeepsTerms}
use Rattle.proof_contexts.specs.declared.scopes.OpenScopes.{OpenScopes}
use Rattle.proof_contexts.specs.OpenAnchors.{AreOpenIn, IsLevel, AreLevels, scopes_entered, AreKept}
use Rattle.proof_contexts.specs.Ways.{AreKeptOfSome}
use Rattle.proof_contexts.proofs.Anchors.{open_same}

-- the law of `contexts` as the terms grow
abbrev pub BindingsStay : Type 0
BindingsStay = (s : Table) (v w : TermsView) (bindings : List (ℕ × ℕ)) (q : Replacement) → KeepsTerms v w → StandForReplacement s v bindings q → StandForReplacement s w bindings q

module _ (stay : BindingsStay) (s : Table) (v w : TermsView) (grows : KeepsTerms v w) (proof : ProofItems Var Term) where
  level_later : (k : ℕ) (bs : List (ℕ × ℕ)) → IsLevel s v proof k bs → IsLevel s w proof k bs
  level_later k bs h = record { anchors = h.anchors; are_open = h.are_open; stand = stay s v w bs (images h.anchors) grows h.stand }

  pub levels_later : (ks : List ℕ) (frames : List (List (ℕ × ℕ))) → AreLevels s v proof ks frames → AreLevels s w proof ks frames
  levels_later [] frames h = h
  levels_later (k ∷ ks) [] h = absurd h
  levels_later (k ∷ ks) (bs ∷ frames) h = (level_later k (joined (bs ∷ frames)) h.0, h.1, levels_later ks frames h.2)

pub stand_later : (stay : BindingsStay) (s : Table) (v w : TermsView) (x y : Substitution) → KeepsTerms v w → frames_of y ≡ frames_of x → (q : Replacement) → StandForReplacement s v (all_bindings x) q → StandForReplacement s w (all_bindings y) q
stand_later stay s v w x y grows e q h = subst (λ frames. StandForReplacement s w (joined frames) q) (sym e) (stay s v w (all_bindings x) q grows h)

pub replaced_later : (stay : BindingsStay) (s : Table) (v w : TermsView) (x y : Substitution) → KeepsTerms v w → frames_of y ≡ frames_of x → AreReplacementBy s v (all_bindings x) → AreReplacementBy s w (all_bindings y)
replaced_later stay s v w x y grows e h = record { means = h.means; are = stand_later stay s v w x y grows e h.means h.are }

-- the scopes in order
pub scopes_more : (around : List ℕ) (here : ℕ) → reverse (around ++ here ∷ []) ≡ here ∷ reverse around
scopes_more around here = reverse-append around (here ∷ [])

-- the outermost scope alone
pub level_outermost : (s : Table) (v : TermsView) (proof : ProofItems Var Term) → parent_at proof 0 ≡ None → AreLevels s v proof (0 ∷ []) ([] ∷ [])
level_outermost s v proof root = (record { anchors = []; are_open = root; stand = tt }, refl, refl)

-- the last scope is left
pub levels_left : (s : Table) (v : TermsView) (proof : ProofItems Var Term) (k j : ℕ) (ks : List ℕ) (old new : List (List (ℕ × ℕ))) → ((bs cs : List (ℕ × ℕ)) (rest : List (List (ℕ × ℕ))) → old ≡ bs ∷ cs ∷ rest → new ≡ cs ∷ rest) → AreLevels s v proof (k ∷ j ∷ ks) old → AreLevels s v proof (j ∷ ks) new
levels_left s v proof k j ks [] new left h = absurd h
levels_left s v proof k j ks (bs ∷ []) new left h = absurd h.2
levels_left s v proof k j ks (bs ∷ cs ∷ rest) new left h = subst (AreLevels s v proof (j ∷ ks)) (sym (left bs cs rest refl)) h.2

-- the scope that was entered last
pub last_level : (s : Table) (v : TermsView) (proof : ProofItems Var Term) (k : ℕ) (ks : List ℕ) (frames : List (List (ℕ × ℕ))) → AreLevels s v proof (k ∷ ks) frames → IsLevel s v proof k (joined frames)
last_level s v proof k ks [] h = absurd h
last_level s v proof k ks (bs ∷ frames) h = h.0

-- a scope without one around it is the outermost one
pub last_outermost : (s : Table) (v : TermsView) (proof : ProofItems Var Term) (k : ℕ) (frames : List (List (ℕ × ℕ))) → AreLevels s v proof (k ∷ []) frames → k ≡ 0
last_outermost s v proof k [] h = absurd h
last_outermost s v proof k (bs ∷ frames) h = h.1

module _ (s : Table) (v : TermsView) (refs : ProofItems ℕ ℕ) (x : OpenScopes) (kept : AreKept s v refs x) where
  pub level_here : IsLevel s v kept.proof x.here (all_bindings x.substitution)
  level_here = last_level s v kept.proof x.here (reverse x.around.items) (frames_of x.substitution) kept.levels

  pub are_replacement : AreReplacementBy s v (all_bindings x.substitution)
  are_replacement = record { means = images level_here.anchors; are = level_here.stand }

  pub kept_of_some : AreKeptOfSome x
  kept_of_some = record { table = s; view = v; refs = refs; kept = kept }

  -- by any proof for which the items stand, and the anchors that are open in its scope
  pub stand_for_images : IsTable s → IsOneToOne v.pass → ((p q : ProofItems Var Term) → IsTable s → IsOneToOne v.pass → StandForItems s v refs p → StandForItems s v refs q → p ≡ q) → (of : ProofItems Var Term) (anchors : List (List (Var × Term))) → StandForItems s v refs of → AreOpenIn of x.here anchors → StandForReplacement s v (all_bindings x.substitution) (images anchors)
  stand_for_images table known one of anchors stands here =
      let same = one kept.proof of table known kept.stand stands in
      let both = open_same of x.here level_here.anchors anchors (subst (λ p. AreOpenIn p x.here level_here.anchors) same level_here.are_open) here in
      subst (λ xs. StandForReplacement s v (all_bindings x.substitution) (images xs)) both level_here.stand

  -- the substitution of the scope went on, and the rest is as before
  pub kept_later : BindingsStay → (w : TermsView) → KeepsTerms v w → (new : OpenScopes) → StandForItems s w refs kept.proof → scopes_entered new ≡ scopes_entered x → frames_of new.substitution ≡ frames_of x.substitution → IsRight w new.substitution → AreKept s w refs new
  kept_later stay w grows new stand scopes frames right = record {
    proof = kept.proof;
    stand = stand;
    levels = subst (λ ks. AreLevels s w kept.proof ks (frames_of new.substitution)) (sym scopes)
        (subst (AreLevels s w kept.proof (scopes_entered x)) (sym frames)
        (levels_later stay s v w grows kept.proof (scopes_entered x) (frames_of x.substitution) kept.levels));
    right = right;
  }

pub right_for_some : (x : OpenScopes) → AreKeptOfSome x → IsRightForSome x.substitution
right_for_some x h = record { view = h.view; right = h.kept.right }

-- a scope is left: `old` is before
pub kept_left : (s : Table) (v : TermsView) (refs : ProofItems ℕ ℕ) (old new : OpenScopes) → old.around.items ≡ new.around.items ++ new.here ∷ [] → ((bs cs : List (ℕ × ℕ)) (rest : List (List (ℕ × ℕ))) → frames_of old.substitution ≡ bs ∷ cs ∷ rest → frames_of new.substitution ≡ cs ∷ rest) → (IsRight v old.substitution → IsRight v new.substitution) → AreKept s v refs old → AreKept s v refs new
kept_left s v refs old new scopes left right kept = record {
  proof = kept.proof;
  stand = kept.stand;
  levels = levels_left s v kept.proof old.here new.here (reverse new.around.items) (frames_of old.substitution) (frames_of new.substitution) left
      (subst (λ ks. AreLevels s v kept.proof (old.here ∷ ks) (frames_of old.substitution)) (ap reverse scopes ∙ scopes_more new.around.items new.here) kept.levels);
  right = right kept.right;
}

pub here_outermost : (s : Table) (v : TermsView) (refs : ProofItems ℕ ℕ) (x : OpenScopes) → x.around.items ≡ [] → AreKept s v refs x → x.here ≡ 0
here_outermost s v refs x none kept =
    last_outermost s v kept.proof x.here (frames_of x.substitution) (subst (λ xs. AreLevels s v kept.proof (x.here ∷ reverse xs) (frames_of x.substitution)) none kept.levels)

pub kept_start : (s : Table) (v : TermsView) (refs : ProofItems ℕ ℕ) (proof : ProofItems Var Term) → StandForItems s v refs proof → parent_at proof 0 ≡ None → (x : OpenScopes) → x.here ≡ 0 → x.around.items ≡ [] → frames_of x.substitution ≡ [] ∷ [] → IsRight v x.substitution → AreKept s v refs x
kept_start s v refs proof stand root x here around frames right = record {
  proof = proof;
  stand = stand;
  levels = subst (λ k. AreLevels s v proof (k ∷ reverse x.around.items) (frames_of x.substitution)) (sym here)
      (subst (λ ks. AreLevels s v proof (0 ∷ reverse ks) (frames_of x.substitution)) (sym around)
      (subst (AreLevels s v proof (0 ∷ [])) (sym frames) (level_outermost s v proof root)));
  right = right;
}
