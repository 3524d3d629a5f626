use Rattle.std.proofs.Common.{◌≡◌, None, Some, if◌then◌else◌, refl, subst}
use Rattle.std.specs.Str.{chars}
use Rattle.jfr_mask.specs.Pseudonyms.{has_text, number_of}
use Rattle.jfr_mask.proofs.FindLaws.{found_is, found_or_absent}
use Rattle.jfr_mask.proofs.dictionary.Dictionary.number_by_tag.Goals as goal

pub returns-in-Some : goal.returns-in-Some
returns-in-Some c =
    let t = chars c.args.text.now in
    subst (λ d. Some c.in-Some.number ≡ (if has_text d t then Some (number_of d t) else None)) c.self.view_is
    (found_is c.self.inside.texts t c.in-Some.number c.self.invariant.distinct c.in-Some.ensures.found)

pub returns-in-None : goal.returns-in-None
returns-in-None c =
    let t = chars c.args.text.now in
    let d = c.self.inside in
    subst (λ d. c.number_in_others.result ≡ (if has_text d t then Some (number_of d t) else None)) c.self.view_is
    (found_or_absent d.texts d.slots.slots.items d.others c.args.text.now c.args.tag c.number_in_others.result c.utf8.text c.requires c.self.invariant (c.in-None.ensures.absent refl)
    c.number_in_others.ensures.found c.number_in_others.ensures.absent)
