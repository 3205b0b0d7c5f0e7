use Rattle.one_copy_laws.proofs.PostsStoring.{remarks}
use Rattle.one_copy_laws.proofs.posts.marks_keep.Goals as goal

pub returns : goal.returns
returns c = remarks
