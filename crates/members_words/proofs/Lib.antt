mod MemberList
