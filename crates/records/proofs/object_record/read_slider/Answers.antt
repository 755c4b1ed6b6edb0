-- Each return is what the definition computes from the tests and fields on the way; a wrong list is refused for its rule.
use Rattle.std.proofs.Common.{rules, take, drop}
use Rattle.rules.specs.Refusals.{◌>>=◌, ◌>>◌, refuse◌when◌}
use Rattle.records.specs.Records.{slider_of}
use Rattle.records.proofs.Nested.{refused_list}
use Rattle.records.proofs.object_record.read_slider.Goals as goal

pub returns-in_err-slider : goal.returns-in_err-slider
unfolding slider_of ◌>>=◌ ◌>>◌ refuse◌when◌
returns-in_err-slider c = search (rules, refused_list (take c.word_at-count.result (drop 12 c.args.r.now)))
