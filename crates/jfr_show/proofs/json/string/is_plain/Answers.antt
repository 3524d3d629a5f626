use Rattle.std.proofs.Common.{◌+◌, drop, get_or, arith, sym, subst}
use Rattle.std.proofs.lemmas.List.{drop_more, drop_all}
use Rattle.jfr_show.proofs.EscapeLaws.{IsPlain, none_plain, one_plain}
use Rattle.jfr_show.proofs.json.string.is_plain.Goals as goal

pub loop-byte-init : goal.loop-byte-init
loop-byte-init c = λ h. h

pub loop-byte-preserved : goal.loop-byte-preserved
loop-byte-preserved c = λ h.
    (let xs = c.as_bytes-byte-items.result.now in
    let x = get_or xs c.loop-byte.byte-index 0 in
    c.loop-byte.invariant (subst IsPlain (sym (drop_more xs c.loop-byte.byte-index 0 (omega arith)))
    (one_plain x (drop (c.loop-byte.byte-index + 1) xs) c.if-byte-lt32.false c.if-byte-eq34.false c.if-byte-eq92.false h)))

pub returns : goal.returns
returns c = λ yes.
    (let xs = c.as_bytes-byte-items.result.now in
    subst IsPlain c.as_bytes-byte-items.ensures.value (c.loop-byte.invariant (subst IsPlain (sym (drop_all c.loop-byte.byte-index xs (omega arith))) none_plain)))
