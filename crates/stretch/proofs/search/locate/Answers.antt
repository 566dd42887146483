use Rattle.stretch.proofs.Searches.{short_read}
use Rattle.stretch.proofs.search.locate.Goals as goal

pub search-requires : goal.search-requires
search-requires c = short_read _ _ c.read.ensures _ c.in_ok-read.was
