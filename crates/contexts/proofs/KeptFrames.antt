-- A substitution stays right, as it goes on in its last frame, enters one and leaves one.
use Rattle.std.proofs.Common.{◌≡◌, ◌≢◌, ◌⊎◌, inl, inr, ℕ, List, [], ◌∷◌, ◌++◌, Option, Some, None, IsSome, is_some, Result, Ok, Err, OnErr, is_ok, Bool, true, false, eqb, nat_eq, ◌==◌, if◌then◌else◌, refl, sym, ◌∙◌, ap, subst}
use Rattle.std.proofs.lemmas.Bool.Decides.{eqb_tells}
use Rattle.pair_pool.specs.Trees.{Tree, leaf}
use Rattle.term_pool.specs.Views.{TermsView, KeepsTerms}
use Rattle.contexts.specs.declared.closed.Closed.{Closed}
use Rattle.contexts.specs.declared.frames.Frame.{Frame}
use Rattle.contexts.specs.declared.kept.Substitution.{Substitution}
use Rattle.contexts.specs.declared.walked.Walked.{Walked}
use Rattle.contexts.specs.Becoming.{Images, IsImageAt, Look, look_of}
use Rattle.contexts.specs.Closed.{IsClosedFor}
use Rattle.contexts.specs.Firsts.{first_for}
use Rattle.contexts.specs.Frames.{PutsBack, LeadsBack, frames_in_front, IsFrame, AreRightFrames}
use Rattle.contexts.specs.Kept.{IsRight, frames_of, all_bindings}
use Rattle.contexts.specs.Places.{IsWalked}
use Rattle.contexts.specs.PutIn.{joined}
use Rattle.contexts.proofs.ClosedLemmas.{closed_again}
use Rattle.contexts.proofs.FrameLemmas.{turned_more, frames_more, frames_less, frames_later}

-- maps
pub look_unchanged : (old new : Images) → new.entries ≡ old.entries → (k : ℕ) → look_of new k ≡ look_of old k
look_unchanged old new e k = rw e

pub look_others : (old new : Images) (n : ℕ) → ((k : ℕ) → nat_eq n k ≡ false → look_of new k ≡ look_of old k) → (k : ℕ) → k ≢ n → look_of new k ≡ look_of old k
look_others old new n h k apart = go (eqb n k) refl (eqb_tells n k)
  where
    go : (t : Bool) → eqb n k ≡ t → ((t ≡ true) × (n ≡ k)) ⊎ ((t ≡ false) × (n ≢ k)) → look_of new k ≡ look_of old k
    go t e (inl both) = absurd (apart (sym both.1))
    go t e (inr both) = h k (e ∙ both.0)

pub some_is : (o : Option ℕ) (r : ℕ) → o ≡ Some r → IsSome o
some_is o r e = ap is_some e

-- what lists of bindings do not have
pub none_behind : (bs cs : List (ℕ × ℕ)) (k : ℕ) → first_for (bs ++ cs) k ≡ None → first_for cs k ≡ None
none_behind [] cs k e = e
none_behind (b ∷ bs) cs k e = go (b.0 == k) (none_behind bs cs k) e
  where
    go : (t : Bool) → (first_for (bs ++ cs) k ≡ None → first_for cs k ≡ None) → (if t then Some b.1 else first_for (bs ++ cs) k) ≡ None → first_for cs k ≡ None
    go true later e = absurd cc
    go false later e = later e

pub none_before : (bs cs : List (ℕ × ℕ)) (k : ℕ) → first_for bs k ≡ None → first_for (bs ++ cs) k ≡ first_for cs k
none_before [] cs k e = refl
none_before (b ∷ bs) cs k e = go (b.0 == k) (none_before bs cs k) e
  where
    go : (t : Bool) → (first_for bs k ≡ None → first_for (bs ++ cs) k ≡ first_for cs k) → (if t then Some b.1 else first_for bs k) ≡ None → (if t then Some b.1 else first_for (bs ++ cs) k) ≡ first_for cs k
    go true later e = absurd cc
    go false later e = later e

-- what went well
pub ok_where_room : {T E : Type 0} (r : Result T E) (P : Type 0) → OnErr r P → (P → ⊥) → is_ok r ≡ true
ok_where_room (Ok x) P h never = refl
ok_where_room (Err e) P h never = absurd (never h)

module _ (v : TermsView) (x : Substitution) (h : IsRight v x) where
  look_is : look_of x.images ≡ first_for (x.here.bindings.items ++ joined (frames_in_front [] x.around.items))
  look_is = λ i. λ k. h.images k i

  -- what the last frame remembers, where a walk begins
  pub walked_here : IsWalked v.pass (look_of x.images) x.here.walked.layers.lists.items x.here.walked.memo
  walked_here = subst (λ (put : Look). IsWalked v.pass put x.here.walked.layers.lists.items x.here.walked.memo) (sym look_is) h.here.walked

  -- the last frame leads back to what stands around it
  pub back_here : PutsBack x.here.before.items (look_of x.images) (first_for (joined (frames_in_front [] x.around.items)))
  back_here = subst (λ (now : Look). PutsBack x.here.before.items now (first_for (joined (frames_in_front [] x.around.items)))) (sym look_is) h.here.back

  pub leads_back : LeadsBack x.here.before.items (look_of x.images)
  leads_back = record { before = first_for (joined (frames_in_front [] x.around.items)); back = back_here }

-- a walk has ended in the last frame
pub right_walked : (v w : TermsView) (x : Substitution) (walked : Walked) (closed : Closed) → KeepsTerms v w → IsWalked w.pass (look_of x.images) walked.layers.lists.items walked.memo → IsClosedFor w.pass (look_of x.images) closed → IsRight v x → IsRight w (record { images = x.images; around = x.around; here = record { bindings = x.here.bindings; before = x.here.before; walked = walked }; closed = closed })
right_walked v w x walked closed keeps more marks h = record {
  images = h.images;
  here = record {
    back = h.here.back;
    walked = subst (λ (put : Look). IsWalked w.pass put walked.layers.lists.items walked.memo) (look_is v x h) more;
  };
  around = frames_later v.pass w.pass keeps.pass [] x.around.items h.around;
  closed = marks;
}

-- nothing is put in yet
pub right_start : (v : TermsView) (x : Substitution) → x.images.entries ≡ [] → x.around.items ≡ [] → x.here.bindings.items ≡ [] → x.here.before.items ≡ [] → ((put : Look) (f : ℕ → Tree) → ((k : ℕ) → IsImageAt v.pass (put k) k (f k)) → IsWalked v.pass put x.here.walked.layers.lists.items x.here.walked.memo) → ((put : Look) → IsClosedFor v.pass put x.closed) → IsRight v x
right_start v x empty around bindings before walked closed = record {
  images = λ k. found k ∙ sym (ap (λ bs. first_for bs k) none);
  here = record {
    back = subst (λ es. PutsBack es (first_for (x.here.bindings.items ++ joined (frames_in_front [] x.around.items))) (first_for (joined (frames_in_front [] x.around.items)))) (sym before)
        (λ k. ap (λ bs. first_for (bs ++ joined (frames_in_front [] x.around.items)) k) bindings);
    walked = walked (first_for (x.here.bindings.items ++ joined (frames_in_front [] x.around.items))) leaf
        (λ k. subst (λ bs. IsImageAt v.pass (first_for bs k) k (leaf k)) (sym none) refl);
  };
  around = subst (AreRightFrames v.pass []) (sym around) tt;
  closed = closed (look_of x.images);
}
  where
    none : x.here.bindings.items ++ joined (frames_in_front [] x.around.items) ≡ []
    none = ap (λ bs. bs ++ joined (frames_in_front [] x.around.items)) bindings ∙ ap (λ fs. joined (frames_in_front [] fs)) around

    found : (k : ℕ) → look_of x.images k ≡ None
    found k = rw empty

-- the same look and the same frames
pub right_again : (v : TermsView) (x y : Substitution) → ((k : ℕ) → look_of y.images k ≡ look_of x.images k) → y.around.items ≡ x.around.items → y.here ≡ x.here → y.closed ≡ x.closed → IsRight v x → IsRight v y
right_again v x y images around here closed h = record {
  images = λ k. images k ∙ h.images k ∙ ap (λ bs. first_for bs k) same;
  here = subst (IsFrame v.pass (joined (frames_in_front [] y.around.items))) (sym here)
      (subst (λ fs. IsFrame v.pass (joined (frames_in_front [] fs)) x.here) (sym around) h.here);
  around = subst (AreRightFrames v.pass []) (sym around) h.around;
  closed = subst (IsClosedFor v.pass (look_of y.images)) (sym closed)
      (closed_again v.pass (look_of x.images) (look_of y.images) x.closed (λ k none. images k ∙ none) h.closed);
}
  where
    same : all_bindings x ≡ all_bindings y
    same =
        ap (λ (f : Frame). f.bindings.items ++ joined (frames_in_front [] x.around.items)) (sym here)
        ∙ ap (λ fs. y.here.bindings.items ++ joined (frames_in_front [] fs)) (sym around)

-- a frame is entered
inner_frames : (x y : Substitution) → y.around.items ≡ x.around.items ++ x.here ∷ [] → frames_in_front [] y.around.items ≡ frames_of x
inner_frames x y e = ap (frames_in_front []) e ∙ turned_more [] x.around.items x.here

pub frames_in : (x y : Substitution) (bs : List (ℕ × ℕ)) → y.around.items ≡ x.around.items ++ x.here ∷ [] → y.here.bindings.items ≡ bs → frames_of y ≡ bs ∷ frames_of x
frames_in x y bs e here = ap (λ b. b ∷ frames_in_front [] y.around.items) here ∙ ap (λ fs. bs ∷ fs) (inner_frames x y e)

pub right_in : (v : TermsView) (x y : Substitution) → y.around.items ≡ x.around.items ++ x.here ∷ [] → ((k : ℕ) → look_of y.images k ≡ first_for (y.here.bindings.items ++ all_bindings x) k) → PutsBack y.here.before.items (look_of y.images) (look_of x.images) → IsWalked v.pass (first_for (y.here.bindings.items ++ all_bindings x)) y.here.walked.layers.lists.items y.here.walked.memo → IsClosedFor v.pass (look_of y.images) y.closed → IsRight v x → IsRight v y
right_in v x y e images back walked closed h = record {
  images = λ k. images k ∙ ap (λ fs. first_for (y.here.bindings.items ++ joined fs) k) (sym (inner_frames x y e));
  here = subst (λ fs. IsFrame v.pass (joined fs) y.here) (sym (inner_frames x y e)) inner;
  around = subst (AreRightFrames v.pass []) (sym e) (frames_more v.pass [] x.around.items x.here h.around h.here);
  closed = closed;
}
  where
    look : look_of y.images ≡ first_for (y.here.bindings.items ++ all_bindings x)
    look = λ i. λ k. images k i

    inner : IsFrame v.pass (all_bindings x) y.here
    inner = record {
      back = subst (λ (now : Look). PutsBack y.here.before.items now (first_for (all_bindings x))) look
          (subst (λ (outer : Look). PutsBack y.here.before.items (look_of y.images) outer) (look_is v x h) back);
      walked = walked;
    }

-- a frame is left
pub frames_left : (x y : Substitution) → x.around.items ≡ y.around.items ++ y.here ∷ [] → (bs cs : List (ℕ × ℕ)) (rest : List (List (ℕ × ℕ))) → frames_of x ≡ bs ∷ cs ∷ rest → frames_of y ≡ cs ∷ rest
frames_left x y e bs cs rest is = sym (inner_frames y x e) ∙ rest_same is
  where
    rest_same : {b : List (ℕ × ℕ)} {fs : List (List (ℕ × ℕ))} → b ∷ fs ≡ bs ∷ cs ∷ rest → fs ≡ cs ∷ rest
    rest_same same = cc

pub right_left : (v : TermsView) (x y : Substitution) → x.around.items ≡ y.around.items ++ y.here ∷ [] → ((outer : Look) → PutsBack x.here.before.items (look_of x.images) outer → (k : ℕ) → look_of y.images k ≡ outer k) → y.closed ≡ x.closed → IsRight v x → IsRight v y
right_left v x y e back closed h =
    let frames = frames_less v.pass [] y.around.items y.here (subst (AreRightFrames v.pass []) e h.around) in
    record {
      images = λ k. back (first_for (joined (frames_in_front [] x.around.items))) (back_here v x h) k ∙ ap (λ fs. first_for (joined fs) k) (inner_frames y x e);
      here = frames.1;
      around = frames.0;
      closed = subst (IsClosedFor v.pass (look_of y.images)) (sym closed)
          (closed_again v.pass (look_of x.images) (look_of y.images) x.closed
          (λ k none. back (first_for (joined (frames_in_front [] x.around.items))) (back_here v x h) k
          ∙ none_behind x.here.bindings.items (joined (frames_in_front [] x.around.items)) k (sym (h.images k) ∙ none)) h.closed);
    }
