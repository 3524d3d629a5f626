use Rattle.std.proofs.Common.{refl}
use Rattle.std.specs.Str.{chars}
use Rattle.jfr_build.proofs.described.fixed_texts.Goals as goal

pub returns : goal.returns
unfolding chars
returns c = record {
  ok = rw (
    c.in_ok-push-15.ensures.ok,
    c.in_ok-push-14.ensures.ok,
    c.in_ok-push-13.ensures.ok,
    c.in_ok-push-12.ensures.ok,
    c.in_ok-push-11.ensures.ok,
    c.in_ok-push-10.ensures.ok,
    c.in_ok-push-9.ensures.ok,
    c.in_ok-push-8.ensures.ok,
    c.in_ok-push-7.ensures.ok,
    c.in_ok-push-6.ensures.ok,
    c.in_ok-push-5.ensures.ok,
    c.in_ok-push-4.ensures.ok,
    c.in_ok-push-3.ensures.ok,
    c.in_ok-push-2.ensures.ok,
    c.in_ok-push.ensures.ok,
    c.new-texts.ensures,
  ) refl;
}
