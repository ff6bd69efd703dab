-- Laws of the metadata segment, the attachment directory and the attachments.
pub mod AttachmentLaws
