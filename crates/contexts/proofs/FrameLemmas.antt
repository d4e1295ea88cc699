-- What is put in for leaves frame by frame, and put back.
use Rattle.std.proofs.Common.{◌≡◌, ◌≢◌, ◌⊎◌, inl, inr, ◌<◌, ◌≤◌, ◌-◌, ℕ, suc, List, [], ◌∷◌, ◌++◌, length, get_or, drop, drop-cons, Option, Some, IsSome, Bool, true, false, eqb, if◌then◌else◌, refl, sym, ◌∙◌, ap, subst, arith}
use Rattle.std.proofs.lemmas.Bool.{cases_eq}
use Rattle.std.proofs.lemmas.Bool.Decides.{eqb_tells}
use Rattle.pair_pool.specs.Views.{PassView}
use Rattle.rule_model.specs.Replacement.{Replacement}
use Rattle.sym_table.specs.Table.{Table}
use Rattle.term_model.proofs.Zips.{zip_weaken}
use Rattle.term_pool.specs.Bindings.{IsBindingOf}
use Rattle.term_pool.specs.Views.{TermsView, KeepsPass, KeepsTerms}
use Rattle.contexts.specs.declared.frames.Frame.{Frame}
use Rattle.contexts.specs.declared.kept.Substitution.{Substitution}
use Rattle.contexts.specs.Becoming.{Look, look_of}
use Rattle.contexts.specs.Firsts.{first_for}
use Rattle.contexts.specs.Frames.{PutsBack, frames_in_front, IsFrame, AreRightFrames}
use Rattle.contexts.specs.Kept.{IsRight}
use Rattle.contexts.specs.PutIn.{StandForReplacement, joined}
use Rattle.contexts.proofs.ClosedLemmas.{closed_later}
use Rattle.contexts.proofs.Keeping.{walked_later}

-- one leaf more
pub back_more : (es : List (ℕ × Option ℕ)) (e : ℕ × Option ℕ) (now later before : Look) → PutsBack es now before → now e.0 ≡ e.1 → ((k : ℕ) → k ≢ e.0 → later k ≡ now k) → ((r : ℕ) → e.1 ≡ Some r → IsSome (later e.0)) → PutsBack (es ++ e ∷ []) later before
back_more [] e now later before h note others some = (later, sym (h e.0) ∙ note, λ k other. others k other ∙ h k, some, λ k. refl)
back_more (d ∷ es) e now later before h note others some = (h.0, h.1, h.2, h.3, back_more es e now later h.0 h.4 note others some)

-- the last leaf is found, where something stood there before
pub back_last : (es : List (ℕ × Option ℕ)) (e : ℕ × Option ℕ) (now before : Look) → PutsBack (es ++ e ∷ []) now before → (r : ℕ) → e.1 ≡ Some r → IsSome (now e.0)
back_last [] e now before h r is = subst (λ (o : Option ℕ). IsSome o) (sym (h.4 e.0)) (h.3 r is)
back_last (d ∷ es) e now before h r is = back_last es e now h.0 h.4 r is

-- the last leaf is put back
pub back_less : (es : List (ℕ × Option ℕ)) (e : ℕ × Option ℕ) (now later before : Look) → PutsBack (es ++ e ∷ []) now before → later e.0 ≡ e.1 → ((k : ℕ) → k ≢ e.0 → later k ≡ now k) → PutsBack es later before
back_less [] e now later before h here others = λ k. go k (cases_eq k e.0)
  where
    go : (k : ℕ) → (k ≡ e.0) ⊎ (k ≡ e.0 → ⊥) → later k ≡ before k
    go k (inl same) = ap later same ∙ here ∙ sym h.1 ∙ ap before (sym same)
    go k (inr apart) = others k apart ∙ h.4 k ∙ h.2 k apart
back_less (d ∷ es) e now later before h here others = (h.0, h.1, h.2, h.3, back_less es e now later h.0 h.4 here others)

-- one binding more is put in over others
pub over_more : (old new : Look) (bs outer : List (ℕ × ℕ)) (at : ℕ) (b : ℕ × ℕ) → 0 < at → at ≤ length bs → b ≡ get_or bs (at - 1) b → new b.0 ≡ Some b.1 → ((k : ℕ) → k ≢ b.0 → new k ≡ old k) → ((k : ℕ) → old k ≡ first_for (drop at bs ++ outer) k) → (k : ℕ) → new k ≡ first_for (drop (at - 1) bs ++ outer) k
over_more old new bs outer at b above inside is here others before k =
    go (eqb b.0 k) (eqb_tells b.0 k) ∙ sym (ap (λ (z : List (ℕ × ℕ)). first_for (z ++ outer) k) split)
  where
    split : drop (at - 1) bs ≡ b ∷ drop at bs
    split =
        let back : suc (at - 1) ≡ at = omega arith in
        let within : at - 1 < length bs = omega arith in
        let parts = drop-cons bs (at - 1) b within in
        cc

    go : (t : Bool) → ((t ≡ true) × (b.0 ≡ k)) ⊎ ((t ≡ false) × (b.0 ≢ k)) → new k ≡ (if t then Some b.1 else first_for (drop at bs ++ outer) k)
    go true (inl both) = subst (λ j. new j ≡ Some b.1) both.1 here
    go true (inr both) = absurd (let z = both.0 in cc)
    go false (inl both) = absurd (let z = both.0 in cc)
    go false (inr both) = others k (λ e. both.1 (sym e)) ∙ before k

pub over_none : (old : Look) (bs outer : List (ℕ × ℕ)) (n : ℕ) → n ≡ length bs → ((k : ℕ) → old k ≡ first_for outer k) → (k : ℕ) → old k ≡ first_for (drop n bs ++ outer) k
over_none old bs outer n e h k = h k ∙ sym (ap (λ (z : List (ℕ × ℕ)). first_for (z ++ outer) k) (all bs n e))
  where
    all : (xs : List (ℕ × ℕ)) (m : ℕ) → m ≡ length xs → drop m xs ≡ []
    all [] m e = rw e
    all (x ∷ xs) m e = rw e (all xs (length xs) refl)

-- frames in order
pub turned_more : (outer : List (List (ℕ × ℕ))) (fs : List Frame) (f : Frame) → frames_in_front outer (fs ++ f ∷ []) ≡ f.bindings.items ∷ frames_in_front outer fs
turned_more outer [] f = refl
turned_more outer (g ∷ fs) f = turned_more (g.bindings.items ∷ outer) fs f

pub frames_more : (p : PassView) (outer : List (List (ℕ × ℕ))) (fs : List Frame) (f : Frame) → AreRightFrames p outer fs → IsFrame p (joined (frames_in_front outer fs)) f → AreRightFrames p outer (fs ++ f ∷ [])
frames_more p outer [] f h g = (g, tt)
frames_more p outer (x ∷ fs) f h g = (h.0, frames_more p (x.bindings.items ∷ outer) fs f h.1 g)

pub frames_less : (p : PassView) (outer : List (List (ℕ × ℕ))) (fs : List Frame) (f : Frame) → AreRightFrames p outer (fs ++ f ∷ []) → AreRightFrames p outer fs × IsFrame p (joined (frames_in_front outer fs)) f
frames_less p outer [] f h = (tt, h.0)
frames_less p outer (x ∷ fs) f h = let rest = frames_less p (x.bindings.items ∷ outer) fs f h.1 in ((h.0, rest.0), rest.1)

-- as the pass comes to know more
frame_later : (p q : PassView) → KeepsPass p q → (outer : List (ℕ × ℕ)) (f : Frame) → IsFrame p outer f → IsFrame q outer f
frame_later p q keeps outer f h = record {
  back = h.back;
  walked = walked_later p q keeps (first_for (f.bindings.items ++ outer)) f.walked.layers.lists.items f.walked.memo h.walked;
}

pub frames_later : (p q : PassView) → KeepsPass p q → (outer : List (List (ℕ × ℕ))) (fs : List Frame) → AreRightFrames p outer fs → AreRightFrames q outer fs
frames_later p q keeps outer [] h = tt
frames_later p q keeps outer (f ∷ fs) h = (frame_later p q keeps (joined outer) f h.0, frames_later p q keeps (f.bindings.items ∷ outer) fs h.1)

pub right_stays : (v w : TermsView) (x : Substitution) → KeepsTerms v w → IsRight v x → IsRight w x
right_stays v w x k h = record {
  images = h.images;
  here = frame_later v.pass w.pass k.pass (joined (frames_in_front [] x.around.items)) x.here h.here;
  around = frames_later v.pass w.pass k.pass [] x.around.items h.around;
  closed = closed_later v.pass w.pass k.pass (look_of x.images) x.closed h.closed;
}

pub bindings_stay : (s : Table) (v w : TermsView) (bs : List (ℕ × ℕ)) (q : Replacement) → KeepsTerms v w → StandForReplacement s v bs q → StandForReplacement s w bs q
bindings_stay s v w bs q k = zip_weaken (IsBindingOf s v) (IsBindingOf s w) (λ b c h. record {
  variable = h.variable;
  term = record { tree = h.term.tree; known = k.pass.grows b.1 h.term.tree h.term.known; stands = h.term.stands };
}) bs q

pub back_none : (es : List (ℕ × Option ℕ)) → es ≡ [] → (now : Look) → PutsBack es now now
back_none es none now = subst (λ xs. PutsBack xs now now) (sym none) (λ k. refl)
