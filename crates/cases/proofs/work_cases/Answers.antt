use mathlib.Core.Path.{refl}
use Rattle.mdxmac.specs.Mdx.{K'}
use Rattle.frame.specs.Layout.{header_of, bytes_of_header, body_of}
use Rattle.frame.specs.Reading.{questions}
use Rattle.cases.proofs.work_cases.Goals as goal

pub returns : goal.returns
unfolding K' header_of bytes_of_header body_of questions
returns c = (refl, refl, refl, refl, refl, refl, refl, (refl, refl, refl, refl))
