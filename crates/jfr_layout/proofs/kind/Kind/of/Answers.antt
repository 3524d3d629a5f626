use Rattle.std.proofs.Common.{rules}
use Rattle.std.specs.Str.{chars}
use Rattle.jfr_layout.specs.Classes.{kind_of}
use Rattle.jfr_layout.proofs.kind.Kind.of.Goals as goal

pub returns-then-is_text : goal.returns-then-is_text
unfolding kind_of chars
returns-then-is_text c = search rules

pub returns-then-is_text-2 : goal.returns-then-is_text-2
unfolding kind_of chars
returns-then-is_text-2 c = search rules

pub returns-then-is_text-3 : goal.returns-then-is_text-3
unfolding kind_of chars
returns-then-is_text-3 c = search rules

pub returns-then-is_text-4 : goal.returns-then-is_text-4
unfolding kind_of chars
returns-then-is_text-4 c = search rules

pub returns-then-is_text-5 : goal.returns-then-is_text-5
unfolding kind_of chars
returns-then-is_text-5 c = search rules

pub returns-then-is_text-6 : goal.returns-then-is_text-6
unfolding kind_of chars
returns-then-is_text-6 c = search rules

pub returns-then-is_text-7 : goal.returns-then-is_text-7
unfolding kind_of chars
returns-then-is_text-7 c = search rules

pub returns-then-is_text-8 : goal.returns-then-is_text-8
unfolding kind_of chars
returns-then-is_text-8 c = search rules

pub returns-then-is_text-9 : goal.returns-then-is_text-9
unfolding kind_of chars
returns-then-is_text-9 c = search rules

pub returns : goal.returns
unfolding kind_of chars
returns c = search rules
