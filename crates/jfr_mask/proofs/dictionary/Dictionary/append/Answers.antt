use Rattle.std.proofs.Common.{◌≡◌, ◌+◌, ◌++◌, ◌∷◌, [], ap, rules, sym, subst, ◌∙◌, false}
use Rattle.std.specs.Str.{chars}
use Rattle.jfr_mask.specs.Held.{IsComplete}
use Rattle.jfr_mask.specs.Pseudonyms.{has_text}
use Rattle.jfr_mask.specs.declared.dictionary.Dictionary.TheInside.{Inside}
use Rattle.jfr_mask.proofs.FindLaws.{IsPlaced, complete_added, placed_in_map, placed_in_slot}
use Rattle.jfr_mask.proofs.dictionary.Dictionary.append.Goals as goal
use Rattle.jfr_mask.proofs.dictionary.Dictionary.append.Goals.{then-not-put+in_ok-put_other, else-not-put}

pub invariant_of-self-in_err-push : goal.invariant_of-self-in_err-push
invariant_of-self-in_err-push c =
    let old = c.self.inside in
    let text = c.args.text.now in
    let number = c.len.result + 1 in
    let absent : has_text old.texts (chars text) ≡ false = subst (λ z. has_text z (chars text) ≡ false) (sym c.self.view_is) c.requires.absent in
    let placed : IsPlaced old.texts c.if-not-put.self-inside.slots.slots.items c.if-not-put.self-inside.others text number =
    elim c.if-not-put.branch [
      | then-not-put+in_ok-put_other w ↦ subst (λ (i : Inside). IsPlaced old.texts i.slots.slots.items i.others text number) (sym w.self-inside-is)
          (placed_in_map old.texts old.slots.slots.items c.put.new.self.slots.items old.others w.put_other.new.others text number c.self.invariant c.put.ensures.kept absent w.in_ok-put_other.ensures.ok)
      | else-not-put w ↦ subst (λ (i : Inside). IsPlaced old.texts i.slots.slots.items i.others text number) (sym w.self-inside-is)
          (placed_in_slot old.texts old.slots.slots.items c.put.new.self.slots.items old.others text c.args.tag number c.self.invariant c.put.ensures.kept c.requires.tag (c.put.ensures.put (search rules)))
    ] in
    let same : c.if-not-put.self-inside.texts ≡ old.texts =
    elim c.if-not-put.branch [
      | then-not-put+in_ok-put_other w ↦ ap (λ (i : Inside). i.texts) w.self-inside-is
      | else-not-put w ↦ ap (λ (i : Inside). i.texts) w.self-inside-is
    ] in
    subst (λ d. IsComplete d c.if-not-put.self-inside.slots.slots.items c.if-not-put.self-inside.others) (sym (c.in_err-push.ensures.unchanged ∙ same)) placed.0

pub invariant_of-self-2 : goal.invariant_of-self-2
invariant_of-self-2 c =
    let old = c.self.inside in
    let text = c.args.text.now in
    let number = c.len.result + 1 in
    let absent : has_text old.texts (chars text) ≡ false = subst (λ z. has_text z (chars text) ≡ false) (sym c.self.view_is) c.requires.absent in
    let placed : IsPlaced old.texts c.if-not-put.self-inside.slots.slots.items c.if-not-put.self-inside.others text number =
    elim c.if-not-put.branch [
      | then-not-put+in_ok-put_other w ↦ subst (λ (i : Inside). IsPlaced old.texts i.slots.slots.items i.others text number) (sym w.self-inside-is)
          (placed_in_map old.texts old.slots.slots.items c.put.new.self.slots.items old.others w.put_other.new.others text number c.self.invariant c.put.ensures.kept absent w.in_ok-put_other.ensures.ok)
      | else-not-put w ↦ subst (λ (i : Inside). IsPlaced old.texts i.slots.slots.items i.others text number) (sym w.self-inside-is)
          (placed_in_slot old.texts old.slots.slots.items c.put.new.self.slots.items old.others text c.args.tag number c.self.invariant c.put.ensures.kept c.requires.tag (c.put.ensures.put (search rules)))
    ] in
    let same : c.if-not-put.self-inside.texts ≡ old.texts =
    elim c.if-not-put.branch [
      | then-not-put+in_ok-put_other w ↦ ap (λ (i : Inside). i.texts) w.self-inside-is
      | else-not-put w ↦ ap (λ (i : Inside). i.texts) w.self-inside-is
    ] in
    subst (λ d. IsComplete d c.if-not-put.self-inside.slots.slots.items c.if-not-put.self-inside.others) (sym (c.in_ok-push.ensures.ok ∙ ap (λ z. z ++ chars text ∷ []) same))
    (complete_added old.texts c.if-not-put.self-inside.slots.slots.items c.if-not-put.self-inside.others text number placed.0 absent c.utf8.text (ap (λ n. n + 1) c.len.ensures.length) placed.1)
