use Rattle.one_copy_laws.proofs.PostsPosting.{post_kept}
use Rattle.one_copy_laws.proofs.posts.post_keeps.Goals as goal

pub returns : goal.returns
returns c = post_kept
