-- The stages of a list of classes, one after another.
use Rattle.std.proofs.Common.{◌≡◌, List, [], ◌++◌, sym, ◌∙◌, ap, append_assoc, subst}
use Rattle.jfr_layout.specs.declared.fault.ClassFault.{ClassFault}
use Rattle.jfr_layout.specs.Classes.{Classes, ClassFlaw, IsFirstFlaw, class_faults, Sound, repeats, unknown, empty_inline, deep}
use Rattle.jfr_layout.proofs.Stages.{tells_append}

-- The first flaw of a later stage, if the stages before have none.
later : (a b : List ClassFlaw) (e : ClassFault) → a ≡ [] → IsFirstFlaw b e → IsFirstFlaw (a ++ b) e
later a b e n t = rw n t

pub told_names : (k : Classes) (e : ClassFault) → IsFirstFlaw (repeats k ++ unknown k) e → IsFirstFlaw (class_faults k) e
unfolding class_faults
told_names k e t = subst (λ (z : List ClassFlaw). IsFirstFlaw z e) (append_assoc (repeats k) (unknown k) (empty_inline k ++ deep k))
    (tells_append (repeats k ++ unknown k) (empty_inline k ++ deep k) e t)

pub told_empty : (k : Classes) (e : ClassFault) → repeats k ++ unknown k ≡ [] → IsFirstFlaw (empty_inline k) e → IsFirstFlaw (class_faults k) e
unfolding class_faults
told_empty k e n t = subst (λ (z : List ClassFlaw). IsFirstFlaw z e) (append_assoc (repeats k) (unknown k) (empty_inline k ++ deep k))
    (later (repeats k ++ unknown k) (empty_inline k ++ deep k) e n (tells_append (empty_inline k) (deep k) e t))

pub told_deep : (k : Classes) (e : ClassFault) → repeats k ++ unknown k ≡ [] → empty_inline k ≡ [] → IsFirstFlaw (deep k) e → IsFirstFlaw (class_faults k) e
unfolding class_faults
told_deep k e n m t = subst (λ (z : List ClassFlaw). IsFirstFlaw z e) (append_assoc (repeats k) (unknown k) (empty_inline k ++ deep k))
    (later (repeats k ++ unknown k) (empty_inline k ++ deep k) e n (later (empty_inline k) (deep k) e m t))

pub sound_from : (k : Classes) → repeats k ++ unknown k ≡ [] → empty_inline k ≡ [] → deep k ≡ [] → Sound k
unfolding class_faults
sound_from k n m d = record { none = sym (append_assoc (repeats k) (unknown k) (empty_inline k ++ deep k)) ∙ (ap (λ a. a ++ (empty_inline k ++ deep k)) n ∙ (ap (λ a. a ++ deep k) m ∙ d)) }
