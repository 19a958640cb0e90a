use Rattle.bl_code.specs.BlobIndex.{blob_index}
use Rattle.bl_code.proofs.ReadingLemmas.{blob_index_spelled}
use Rattle.bl_index.proofs.IndexLemmas.{reads_all}
use Rattle.bl_index.proofs.index.index_is_read_again.Goals as goal

pub returns : goal.returns
returns c = λ i f o s. reads_all (blob_index i.file i.offset i.size) i (blob_index_spelled i.file i.offset i.size f o s)
